-- The words of a command line, and the matches that the command makes of them.
use Rattle.std.proofs.Common.{◌≡◌, true, if◌then◌else◌, List, [], ◌∷◌, None, map, refl, sym, ap, subst, ◌∙◌, inl, inr}
use Rattle.std.specs.Prelude.{option_and_then, string_bytes}
use Rattle.std.proofs.lemmas.Str.{IsUtf8-string_bytes}
use Rattle.clap.specs.Matches.{found_of}
use Rattle.clap.specs.Walk.{Text, rows_of}
use Rattle.clap.specs.Simple.{App, matches_of, is_simple}
use Rattle.clap.specs.Kinds.{Kinds, HasKind}
use Rattle.clap.specs.Faults.{fault_of, is_simple_and_free}
use Rattle.clap.specs.Values.{kind_of}
use Rattle.clap.specs.declared.error.Error.{Error}
use Rattle.clap.specs.declared.error.kind.ErrorKind.TheVariants.{OutOfMemory}
use Rattle.clap.specs.declared.parser.matches.ArgMatches.{ArgMatches}
use Rattle.std.specs.declared.string.String.{String}
use Rattle.std.specs.declared.alloc.Global.{Global}
use Rattle.command_words.specs.Command.{app}
use Rattle.command_words.specs.Parts.{Part}
use Rattle.command_words.specs.Orders.{order_from, order_in, order_of}
use Rattle.command_words.specs.Says.{AreRows, Says}
use Rattle.command_words.proofs.EndLemmas.{simple}
use Rattle.command_words.proofs.SpeltLemmas.{spelt_of}
use Rattle.command_words.proofs.Walks.{AreSpelt, end, more}
use Rattle.command_words.proofs.OrderLemmas.{taken, refused}

pub all_spelt : (ws : List (String Global)) → AreSpelt (map string_bytes ws)
all_spelt [] = end
all_spelt (w ∷ ws) = more (string_bytes w) (map string_bytes ws) (spelt_of (string_bytes w) (IsUtf8-string_bytes w)) (all_spelt ws)

-- the parts of words that the command takes
pub record AreTaken (ws : List Text) (m : ArgMatches) : Type 0 where
  pub parts : List Part
  pub says : Says parts m
  pub ordered : order_of ws ≡ order_from parts

pub are_taken : (a : App) (ws : List Text) (m : ArgMatches) → a ≡ app → AreSpelt ws → (is_simple_and_free a ≡ true → fault_of a ws ≡ []) → (is_simple a ≡ true → (rows_of (found_of m) ≡ matches_of a ws)) → AreTaken ws m
are_taken a ws m is spelt free rows =
    let none : fault_of app ws ≡ [] = subst (λ z. fault_of z ws ≡ []) is (free (ap is_simple_and_free is ∙ simple)) in
    let found : rows_of (found_of m) ≡ matches_of app ws = rows (ap is_simple is) ∙ ap (λ z. matches_of z ws) is in
    let it = taken ws spelt none in
    record {
      parts = it.0;
      says = subst (AreRows it.0) (sym found) it.3;
      ordered = ap (option_and_then order_in) it.1 ∙ ap (λ b. if b then order_from it.0 else None) it.2;
    }

-- an error that is no want of memory
pub are_refused : (a : App) (ws : List Text) (e : Error) → a ≡ app → AreSpelt ws → (is_simple_and_free a ≡ true → HasKind (fault_of a ws) e) → (kind_of e ≡ OutOfMemory → ⊥) → order_of ws ≡ None
are_refused a ws e is spelt kinds other =
    go (fault_of app ws) refl (subst (λ z. HasKind (fault_of z ws) e) is (kinds (ap is_simple_and_free is ∙ simple)))
  where
    go : (ks : Kinds) → fault_of app ws ≡ ks → HasKind ks e → order_of ws ≡ None
    go ks at (inl memory) = absurd (other memory)
    go [] at (inr none) = absurd none
    go (k ∷ ks) at (inr among) = refused ws k ks spelt at
