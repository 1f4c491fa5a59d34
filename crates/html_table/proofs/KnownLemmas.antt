-- What is known of names as they are written.
use Rattle.std.proofs.Common.{◌≡◌, ℕ, ◌<◌, ◌≤◌, List, length, get_or, ◌⊎◌, inl, inr, sym, ap, ◌∙◌, subst, arith}
use Rattle.std.specs.Global.{Vec}
use Rattle.std.specs.Str.{bytes_eq}
use Rattle.indexmap.specs.IndexSet.{insert_key}
use Rattle.html_tokens.specs.Bytes.{lowered}
use Rattle.html_tokens.specs.Names.{is_raw}
use Rattle.html_table.specs.declared.name_notes.NameNotes.{NameNotes}
use Rattle.html_table.specs.declared.name_places.Known.{Known}
use Rattle.html_table.specs.declared.name_places.NamePlaces.{NamePlaces}
use Rattle.html_table.specs.Elements.{kind_of}
use Rattle.html_table.specs.NameNotes.{IsNoted}
use Rattle.html_table.specs.NamePlaces.{number_in, place_in, IsNumber, IsKnown, Fits}
use Rattle.html_table.proofs.NameLemmas.{kept_inserted}

pub kind_known : (t : NamePlaces) (q : List ℕ) (k : Known) → Fits t → IsNoted t.known q k → k.kind ≡ kind_of (lowered q)
kind_known t q k fits noted = (fits.known q k noted).kind

pub raw_known : (t : NamePlaces) (q : List ℕ) (k : Known) → Fits t → IsNoted t.known q k → k.is_raw ≡ is_raw (lowered q)
raw_known t q k fits noted = (fits.known q k noted).raw

pub number_known : (t : NamePlaces) (q : List ℕ) (k : Known) → Fits t → IsNoted t.known q k → IsNumber t k.number (lowered q)
number_known t q k fits noted = (fits.known q k noted).number

pub place_known : (t : NamePlaces) (q : List ℕ) (k : Known) → Fits t → IsNoted t.known q k → get_or t.places.items k.number 0 ≡ place_in t (lowered q)
place_known t q k fits noted = sym (ap (λ n. get_or t.places.items n 0) (fits.known q k noted).number.is)

known_kept : (t u : NamePlaces) → ((n : ℕ) (q : List ℕ) → IsNumber t n q → IsNumber u n q) → (q : List ℕ) (k : Known) → IsKnown t q k → IsKnown u q k
known_kept t u kept q k is = record {
  kind = is.kind;
  raw = is.raw;
  number = kept k.number (lowered q) is.number;
}

-- names are entered, or places are changed
pub fits_kept : (t u : NamePlaces) → Fits t → ((n : ℕ) (q : List ℕ) → IsNumber t n q → IsNumber u n q) → u.known ≡ t.known → length u.places.items ≤ length u.names.keys → Fits u
fits_kept t u fits kept same few = record {
  few = few;
  known = λ q k noted. known_kept t u kept q k (fits.known q k (subst (λ (n : NameNotes Known). IsNoted n q k) same noted));
}

-- a name is entered
pub fits_entered : (t u : NamePlaces) (name : Vec ℕ) → Fits t → u.names.keys ≡ insert_key (λ x y. bytes_eq x.items y.items) t.names.keys name → u.known ≡ t.known
    → length t.places.items ≤ length u.places.items → length u.places.items ≤ length u.names.keys → Fits u
fits_entered t u name fits keys same longer few = fits_kept t u fits (λ n q is. record {
  is = kept_inserted (λ k. k.items) t.names.keys u.names.keys name keys q (omega (arith, is.is, is.within, fits.few)) ∙ is.is;
  within = omega (arith, is.within, longer);
}) same few

-- a name becomes known
pub fits_noted : (t : NamePlaces) (known : NameNotes Known) (name : List ℕ) (v : Known) → Fits t
    → ((q : List ℕ) (k : Known) → IsNoted known q k → IsNoted t.known q k ⊎ ((q ≡ name) × (k ≡ v)))
    → v.kind ≡ kind_of (lowered name) → v.is_raw ≡ is_raw (lowered name) → IsNumber t v.number (lowered name) → Fits (record t { known = known })
fits_noted t known name v fits noted kind raw number = record {
  few = fits.few;
  known = λ q k is. elim (noted q k is) [
    | inl old ↦ let before = fits.known q k old in record {
      kind = before.kind;
      raw = before.raw;
      number = record { is = before.number.is; within = before.number.within };
    }
    | inr new ↦ record {
      kind = ap (λ (x : Known). x.kind) (new.1) ∙ kind ∙ sym (ap (λ x. kind_of (lowered x)) (new.0));
      raw = ap (λ (x : Known). x.is_raw) (new.1) ∙ raw ∙ sym (ap (λ x. is_raw (lowered x)) (new.0));
      number = record {
        is = ap (λ x. number_of x) (new.0) ∙ number.is ∙ sym (ap (λ (x : Known). x.number) (new.1));
        within = subst (λ n. n < length t.places.items) (sym (ap (λ (x : Known). x.number) (new.1))) number.within;
      };
    }
  ];
}
  where
    number_of : List ℕ → ℕ
    number_of x = number_in t (lowered x)
