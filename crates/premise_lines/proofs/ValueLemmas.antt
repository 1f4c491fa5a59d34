-- The values that matches have, and the order that they give.
use Rattle.std.proofs.Common.{◌≡◌, true, List, [], ◌∷◌, Option, None, refl, sym, ap, subst, ◌∙◌, inl, inr}
use Rattle.std.specs.Prelude.{option_map, unwrap_or}
use Rattle.clap.specs.Matches.{found_of, raw_values, matched_of}
use Rattle.clap.specs.Walk.{Text, rows_of}
use Rattle.clap.specs.Simple.{App, matches_of, is_simple}
use Rattle.clap.specs.Kinds.{Kinds, HasKind}
use Rattle.clap.specs.Faults.{fault_of, is_simple_and_free}
use Rattle.clap.specs.Values.{kind_of}
use Rattle.clap.specs.declared.error.Error.{Error}
use Rattle.clap.specs.declared.error.kind.ErrorKind.TheVariants.{OutOfMemory}
use Rattle.clap.specs.declared.parser.matches.ArgMatches.{ArgMatches}
use Rattle.clap.proofs.WalkLemmas.{raw_values-rows}
use Rattle.premise_lines.specs.Words.{app, all_in, order_in, order_unless, order_of}

pub values_are : (m : ArgMatches) (id : Text) (o : Option (List Text)) → o ≡ option_map raw_values (matched_of (found_of m) id) → all_in id (rows_of (found_of m)) ≡ unwrap_or o []
values_are m id o is = ap (λ (z : Option (List Text)). unwrap_or z []) (sym (raw_values-rows (found_of m) id) ∙ sym is)

simple : is_simple_and_free app ≡ true
simple = refl

-- words that the command takes
pub taken : (a : App) (ws : List Text) (m : ArgMatches) → a ≡ app → (is_simple_and_free a ≡ true → fault_of a ws ≡ []) → (is_simple a ≡ true → (rows_of (found_of m) ≡ matches_of a ws)) → order_of ws ≡ order_in (rows_of (found_of m))
taken a ws m is free rows =
    let none : fault_of app ws ≡ [] = subst (λ z. fault_of z ws ≡ []) is (free (ap is_simple_and_free is ∙ simple)) in
    let found : rows_of (found_of m) ≡ matches_of app ws = rows (ap is_simple is) ∙ ap (λ z. matches_of z ws) is in
    ap (λ (ks : Kinds). order_unless ks (matches_of app ws)) none ∙ ap order_in (sym found)

-- words that it doesn't take, where there was memory
pub refused : (a : App) (ws : List Text) (e : Error) → a ≡ app → (is_simple_and_free a ≡ true → HasKind (fault_of a ws) e) → (kind_of e ≡ OutOfMemory → ⊥) → order_of ws ≡ None
refused a ws e is kinds other =
    go (fault_of app ws) refl (subst (λ z. HasKind (fault_of z ws) e) is (kinds (ap is_simple_and_free is ∙ simple)))
  where
    go : (ks : Kinds) → fault_of app ws ≡ ks → HasKind ks e → order_of ws ≡ None
    go ks at (inl memory) = absurd (other memory)
    go [] at (inr none) = absurd none
    go (k ∷ ks) at (inr among) = ap (λ (z : Kinds). order_unless z (matches_of app ws)) at
