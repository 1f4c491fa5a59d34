-- Parameters, one by one.
use Rattle.std.proofs.Common.{◌≡◌, ℕ, Bool, true, false, if◌then◌else◌, List, [], ◌∷◌, ◌++◌, drop, Ok, Err, refl, ap, ◌∙◌, codes}
use Rattle.jq_words.specs.declared.faults.ScriptFault.{ScriptFault}
use Rattle.jq_words.specs.declared.faults.ScriptFault.TheVariants.{UnknownForm}
use Rattle.jq_words.specs.Words.{Word, Outcome, is_any_name, begins, first_is, want_name}
use Rattle.std.proofs.lemmas.List.{map-append}
use Rattle.jq_parts.specs.declared.values.Declaration as code
use Rattle.jq_parts.specs.Bindings.{Declaration}
use Rattle.jq_parts.specs.Views.{declaration_of, declarations_of}
use Rattle.jq_parts.specs.Parameters.{hidden, more_parameters}

chosen : (size : ℕ) (ds : List Declaration) (b : Bool) (at : ℕ) (spelling name : List ℕ) (ws rest : List Word)
    → ◌≡◌ {A = Outcome (List ℕ × List Word)} (if b then Ok (spelling, ws) else Err (UnknownForm at)) (Ok (name, rest))
    → (if b then more_parameters size (ds ++ hidden spelling ∷ []) ws else Err (UnknownForm at)) ≡ more_parameters size (ds ++ hidden name ∷ []) rest
chosen size ds true at spelling name ws rest found =
    let pair : ◌≡◌ {A = List ℕ × List Word} (spelling, ws) (name, rest) = cc in ap (λ (p : List ℕ × List Word). more_parameters size (ds ++ hidden p.0 ∷ []) p.1) pair
chosen size ds false at spelling name ws rest found = cc

refused : (b : Bool) (at : ℕ) (found : List ℕ × List Word) (r : Outcome (List Declaration × List Word)) (e : ScriptFault)
    → ◌≡◌ {A = Outcome (List ℕ × List Word)} (if b then Ok found else Err (UnknownForm at)) (Err e) → (if b then r else Err (UnknownForm at)) ≡ Err e
refused true at found r e read = cc
refused false at found r e read = let same : UnknownForm at ≡ e = cc in ap Err same

pub goes_on : (size : ℕ) (ds : List Declaration) (ws rest : List Word) (name : List ℕ)
    → begins (codes ",") ws ≡ true → want_name size (drop 1 ws) ≡ Ok (name, rest) → more_parameters size ds ws ≡ more_parameters size (ds ++ hidden name ∷ []) rest
unfolding more_parameters first_is want_name
goes_on size ds [] rest name here found = cc
goes_on size ds (w ∷ []) rest name here found = cc
goes_on size ds (w ∷ n ∷ ws) rest name here found = rw here (chosen size ds (is_any_name n) n.at n.spelling name ws rest found)

pub fails : (size : ℕ) (ds : List Declaration) (ws : List Word) (e : ScriptFault)
    → begins (codes ",") ws ≡ true → want_name size (drop 1 ws) ≡ Err e → more_parameters size ds ws ≡ Err e
unfolding more_parameters first_is want_name
fails size ds [] e here found = cc
fails size ds (w ∷ []) e here found = let same : UnknownForm size ≡ e = cc in rw here (ap Err same)
fails size ds (w ∷ n ∷ ws) e here found = rw here (refused (is_any_name n) n.at (n.spelling, ws) (more_parameters size (ds ++ hidden n.spelling ∷ []) ws) e found)

pub ends : (size : ℕ) (ds : List Declaration) (ws : List Word) → begins (codes ",") ws ≡ false → more_parameters size ds ws ≡ Ok (ds, ws)
unfolding more_parameters first_is
ends size ds [] here = refl
ends size ds (w ∷ []) here = rw here refl
ends size ds (w ∷ n ∷ ws) here = rw here refl

pub one_hidden : (ds all : List code.Declaration) (d : code.Declaration) → all ≡ ds ++ d ∷ [] → declarations_of all ≡ declarations_of ds ++ declaration_of d ∷ []
one_hidden ds all d is = ap declarations_of is ∙ map-append declaration_of ds (d ∷ [])
