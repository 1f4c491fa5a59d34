-- What is known of the atoms of nodes, as truth values: each node has its atoms, each with whether its first item has a `down` link.
--     first_down items a         of the first item that gives a
use Rattle.std.specs.Prelude.{◌≡◌, ℕ, ◌<◌, Bool, false, not, is_some, ◌==◌, ◌&&◌, ◌||◌, nat_lt, List, [], find, Option, Some, option_map, slice_get}
use Rattle.std.specs.List.{list_all}
use Rattle.indexmap.specs.IndexMap.{get_by}
use Rattle.tp_base.specs.Classes.{has_class}
use Rattle.simple_core.specs.declared.rules.Kind.{Kind}
use Rattle.simple_core.specs.declared.rules.Link.{Link}
use Rattle.simple_core.specs.declared.rules.Local as rule
use Rattle.simple_core.specs.declared.rules.Spawn.{Spawn}
use Rattle.simple_core.specs.declared.system.System.{System}
use Rattle.simple_core.specs.Systems.{kind_label}
use Rattle.proof_check.specs.declared.firsts.Firsts.{Firsts}
use Rattle.proof_check.specs.declared.premises.Stand.{Stand}
use Rattle.proof_check.specs.declared.proofs.Below.TheVariants.{Real, Grown}
use Rattle.proof_check.specs.declared.proofs.Reason.{Reason}
use Rattle.proof_check.specs.declared.proofs.Reason.TheVariants.{Start, Local, Up, Down}
use Rattle.proof_check.specs.declared.proofs.ProofItem.{ProofItem}
use Rattle.proof_check.specs.declared.proofs.Entry.{Entry}
use Rattle.proof_check.specs.Checks.{is_some_and, is_down, is_inside}

abbrev pub first_down : List ProofItem → ℕ → Option Bool
first_down items a = option_map (λ i. is_down i.reason) (find (λ i. i.atom == a) items)

-- what a table has for the node of this number
abbrev pub first_in : Firsts → ℕ → ℕ → Option Bool
first_in table n a = get_by (λ s. n == s.node && a == s.atom) table.table

abbrev pub all_known : (ℕ → Option Bool) → List ℕ → Bool
all_known here atoms = list_all (λ a. is_some (here a)) atoms

-- Where an item stands, by such tests. `gives e a` is whether the entry e gives a.
pub record Near : Type 0 where
  pub label : List ℕ
  pub kind : Option ℕ
  pub lower : ℕ
  pub here : ℕ → Option Bool
  pub above : ℕ → Bool
  pub child : ℕ → ℕ → Bool
  pub gives : ℕ → ℕ → Bool

abbrev pub named_by : Near → ℕ → Kind → Bool
named_by near needs kind = is_some kind.above || (not kind.beside || is_some_and (λ d. d) (near.here needs))

abbrev pub below_by : Near → ℕ → Spawn → Kind → ℕ → Entry → Bool
below_by near from spawn kind e entry =
    nat_lt e near.lower && (entry.kind == spawn.kind && (near.gives e from && (all_known near.here entry.parent && (is_some (near.here spawn.needs)
    && (is_inside kind.above near.kind && named_by near spawn.needs kind)))))

module _ (system : System) where
  abbrev pub spawn_by : List Entry → Near → ℕ → ℕ → Spawn → Bool
  spawn_by entries near from e spawn =
      is_some_and (λ kind. is_some_and (λ entry. below_by near from spawn kind e entry) (slice_get entries e)) (slice_get system.kinds spawn.kind)

  abbrev pub local_by : Near → ℕ → ℕ → Bool
  local_by near atom l = is_some_and (λ (r : rule.Local). r.gives == atom && all_known near.here r.needs) (slice_get system.local l)

  abbrev pub grown_by : List Entry → Near → ℕ → ℕ → ℕ → ℕ → Bool
  grown_by entries near atom l c e =
      is_some_and (λ (r : Link). r.to == atom && is_some_and (spawn_by entries near r.from e) (slice_get system.child c)) (slice_get system.down l)

  abbrev pub sound_by : List Entry → Near → ℕ → Reason → Bool
  sound_by entries near atom Start = has_class atom near.label
  sound_by entries near atom (Local l) = local_by near atom l
  sound_by entries near atom (Up l) = is_some_and (λ (r : Link). r.to == atom && near.above r.from) (slice_get system.up l)
  sound_by entries near atom (Down l (Real k)) = is_some_and (λ (r : Link). r.to == atom && near.child k r.from) (slice_get system.down l)
  sound_by entries near atom (Down l (Grown c e)) = grown_by entries near atom l c e

-- A place with nothing near but its own atoms, which a table has for the node, and the atoms of the entries, which another has.
abbrev pub alone : Firsts → Firsts → ℕ → Option ℕ → ℕ → Near
alone inside known node kind lower = record {
  label = [];
  kind = kind;
  lower = lower;
  here = first_in known node;
  above = λ a. false;
  child = λ k a. false;
  gives = λ e a. is_some (first_in inside e a);
}

abbrev pub alone_at : Stand → Near
alone_at stand = alone stand.inside.now stand.known.now stand.node stand.kind stand.lower

-- the table has for the node n what the items say
abbrev pub KnowsOf : Firsts → ℕ → List ProofItem → Type 0
KnowsOf table n items = (a : ℕ) → first_in table n a ≡ first_down items a

-- and for each entry below n
abbrev pub KnowsBelow : Firsts → ℕ → List Entry → Type 0
KnowsBelow table n entries = (e : ℕ) (entry : Entry) → e < n → slice_get entries e ≡ Some entry → KnowsOf table e entry.items

-- nothing changed but at the node n
abbrev pub KeepsBut : ℕ → Firsts → Firsts → Type 0
KeepsBut n old new = (m a : ℕ) → (n == m) ≡ false → first_in new m a ≡ first_in old m a

-- near a node of the entry's kind below a parent that has what the entry asks for
abbrev pub near_in_kind : System → Entry → Near → Near
near_in_kind system entry near = record near { label = kind_label system entry.kind; above = λ a. has_class a entry.parent }

abbrev pub near_in_entry : System → Firsts → ℕ → Entry → Near
near_in_entry system known n entry = near_in_kind system entry (alone known known n (Some entry.kind) n)
