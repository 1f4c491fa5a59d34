-- What matches have, and the order that they give.
use Rattle.std.proofs.Common.{◌≡◌, true, List, [], ◌∷◌, Option, None, codes, refl, sym, ap, subst, ◌∙◌, inl, inr}
use Rattle.std.specs.Prelude.{option_map, option_and_then}
use Rattle.clap.specs.Matches.{found_of, first_value, raw_values, matched_of}
use Rattle.clap.specs.Walk.{Text, rows_of, first_of}
use Rattle.clap.specs.Simple.{App, matches_of, is_simple}
use Rattle.clap.specs.Kinds.{Kinds, HasKind}
use Rattle.clap.specs.Faults.{fault_of, is_simple_and_free}
use Rattle.clap.specs.Values.{kind_of}
use Rattle.clap.specs.declared.error.Error.{Error}
use Rattle.clap.specs.declared.error.kind.ErrorKind.TheVariants.{OutOfMemory}
use Rattle.clap.specs.declared.parser.matches.ArgMatches.{ArgMatches}
use Rattle.clap.proofs.WalkLemmas.{first_value-rows, raw_values-rows}
use Rattle.widen_sheet.specs.declared.words.Way.{Way}
use Rattle.widen_sheet.specs.Words.{app, way_by, only, order_in, order_unless, order_of}

-- the order of matches, from what is read of them
pub order_is : (m : ArgMatches) (w : Way) (o : Option Text) → w ≡ way_by (first_value (found_of m) (codes "back")) → o ≡ option_and_then only (option_map raw_values (matched_of (found_of m) (codes "files")))
    → order_in (rows_of (found_of m)) ≡ option_map (λ name. (w, name)) o
order_is m w o way file =
    ap (λ (z : Option (List Text)). option_map (λ (name : Text). (way_by (first_of (codes "back") (rows_of (found_of m))), name)) (option_and_then only z)) (sym (raw_values-rows (found_of m) (codes "files")))
    ∙ ap (λ (z : Option Text). option_map (λ (name : Text). (way_by (first_of (codes "back") (rows_of (found_of m))), name)) z) (sym file)
    ∙ ap (λ (z : Option Text). option_map (λ (name : Text). (way_by z, name)) o) (sym (first_value-rows (found_of m) (codes "back")))
    ∙ ap (λ (z : Way). option_map (λ (name : Text). (z, name)) o) (sym way)

simple : is_simple_and_free app ≡ true
simple = refl

-- words that the command takes
pub taken : (a : App) (ws : List Text) (m : ArgMatches) → a ≡ app → (is_simple_and_free a ≡ true → fault_of a ws ≡ []) → (is_simple a ≡ true → (rows_of (found_of m) ≡ matches_of a ws)) → order_of ws ≡ order_in (rows_of (found_of m))
taken a ws m is free rows =
    let none : fault_of app ws ≡ [] = subst (λ z. fault_of z ws ≡ []) is (free (ap is_simple_and_free is ∙ simple)) in
    let found : rows_of (found_of m) ≡ matches_of app ws = rows (ap is_simple is) ∙ ap (λ z. matches_of z ws) is in
    ap (λ (ks : Kinds). order_unless ks (matches_of app ws)) none ∙ ap order_in (sym found)

-- words that it doesn't take, where there was memory
pub refused : (a : App) (ws : List Text) (e : Error) → a ≡ app → (is_simple_and_free a ≡ true → HasKind (fault_of a ws) e) → (kind_of e ≡ OutOfMemory → ⊥) → order_of ws ≡ None
refused a ws e is kinds other =
    go (fault_of app ws) refl (subst (λ z. HasKind (fault_of z ws) e) is (kinds (ap is_simple_and_free is ∙ simple)))
  where
    go : (ks : Kinds) → fault_of app ws ≡ ks → HasKind ks e → order_of ws ≡ None
    go ks at (inl memory) = absurd (other memory)
    go [] at (inr none) = absurd none
    go (k ∷ ks) at (inr among) = ap (λ (z : Kinds). order_unless z (matches_of app ws)) at
