-- The unfolding of a proof: the steps of its items, in their order.
--     unfolded system proof page target     the steps, and the node at which the walk from the root for the target ends
--     proof_steps system proof               how many steps there are
use Rattle.std.specs.Prelude.{ℕ, zero, suc, ◌+◌, ◌==◌, Bool, false, if◌then◌else◌, List, [], ◌∷◌, ◌++◌, length, find, sum_by, Option, Some, None, option_map, option_and_then, unwrap_or, slice_get, bytes_eq}
use Rattle.tree_sem.specs.declared.actions.Step.{Step}
use Rattle.tree_sem.specs.Trees.{LabelTree, children_at}
use Rattle.simple_core.specs.declared.rules.Kind.{Kind}
use Rattle.simple_core.specs.declared.rules.Link.{Link}
use Rattle.simple_core.specs.declared.rules.Local as rule
use Rattle.simple_core.specs.declared.system.System.{System}
use Rattle.proof_check.specs.declared.proofs.Below.TheVariants.{Real, Grown}
use Rattle.proof_check.specs.declared.proofs.Reason.{Reason}
use Rattle.proof_check.specs.declared.proofs.Reason.TheVariants.{Start, Local, Up, Down}
use Rattle.proof_check.specs.declared.proofs.ProofItem.{ProofItem}
use Rattle.proof_check.specs.declared.proofs.Entry.{Entry}
use Rattle.proof_check.specs.declared.proofs.PageItem.{PageItem}
use Rattle.proof_check.specs.declared.proofs.Proof.{Proof}

-- the steps so far, and how many children they have added to the node of each path
pub record Progress : Type 0 where
  pub steps : List Step
  pub added : List ℕ → ℕ

-- An item that was passed: its atom, the child that it names, if it names one, and the node to which the walk for a match goes from it.
pub record Passed : Type 0 where
  pub atom : ℕ
  pub child : Option ℕ
  pub end : List ℕ

-- the child that the first item with the atom names
abbrev pub child_for : ℕ → List Passed → ℕ
child_for a here = unwrap_or (option_and_then (λ p. p.child) (find (λ p. p.atom == a) here)) 0

-- where the walk goes from the first item with the atom, at the node v
abbrev pub end_for : ℕ → List Passed → List ℕ → List ℕ
end_for a here v = unwrap_or (option_map (λ p. p.end) (find (λ p. p.atom == a) here)) v

-- n children more at v
abbrev pub with_children : List ℕ → ℕ → (List ℕ → ℕ) → List ℕ → ℕ
with_children v n added q = if bytes_eq v q then added q + n else added q

abbrev pub with_step : ℕ → List ℕ → Progress → Progress
with_step s v done = record done { steps = done.steps ++ record { stmt = s; at = v } ∷ [] }

abbrev pub from_of : Option Link → ℕ
from_of None = 0
from_of (Some link) = link.from

module _ (system : System) where
  -- the kind of a spawn rule
  abbrev pub spawned : ℕ → Option Kind
  spawned c = option_and_then (λ s. slice_get system.kinds s.kind) (slice_get system.child c)

  abbrev pub needed_by : ℕ → ℕ
  needed_by c = unwrap_or (option_map (λ s. s.needs) (slice_get system.child c)) 0

  -- how many children a grown node of this kind has from its forest
  abbrev pub is_below : ℕ → Kind → Bool
  is_below j kind = unwrap_or (option_map (λ i. i == j) kind.above) false

  abbrev pub forest_children : ℕ → ℕ
  forest_children j = unwrap_or (option_map (λ k. k.siblings) (find (is_below j) system.kinds)) 0

  abbrev pub after_local : Option rule.Local → List ℕ → Progress → Progress
  after_local None v done = done
  after_local (Some rule) v done = unwrap_or (option_map (λ s. with_step s v done) rule.stmt) done

  -- A node of an inner kind has come with its forest. A node of a top kind comes with a step at v, or for a `beside` kind at
  -- the child that is named for the spawn's atom.
  abbrev pub with_forest : Kind → ℕ → List ℕ → List Passed → Progress → Progress
  with_forest kind atom v here done =
      let at = if kind.beside then v ++ child_for atom here ∷ [] else v in
      record { steps = done.steps ++ record { stmt = kind.stmt; at = at } ∷ []; added = with_children v kind.siblings done.added }

  abbrev pub after_spawn : Kind → ℕ → List ℕ → List Passed → Progress → Progress
  after_spawn kind atom v here done = unwrap_or (option_map (λ j. done) kind.above) (with_forest kind atom v here done)

  -- the number of the new node among the children of v, which had `base` children before all steps
  abbrev pub number_at : Kind → ℕ → List ℕ → Progress → ℕ
  number_at kind base v done = unwrap_or (option_map (λ j. kind.number) kind.above) (base + done.added v + kind.number)

  abbrev pub plain_item : ProofItem → List ℕ → Passed
  plain_item item v = record { atom = item.atom; child = None; end = v }

  -- the item whose `down` link has `from`, when the entry at its child w, the child k, has been passed
  abbrev pub down_item : ProofItem → ℕ → ℕ → List ℕ → Progress × List Passed → Progress × Passed
  down_item item from k w inside = (inside.0, record { atom = item.atom; child = Some k; end = end_for from inside.1 w })

  module _ (entry_at : ℕ → List ℕ → Progress → Progress × List Passed) where
    -- one item at v. `here` was passed at v before, and `real k` at the page's child k
    abbrev pub grown_item : Option Kind → ProofItem → ℕ → ℕ → ℕ → ℕ → List ℕ → List Passed → Progress → Progress × Passed
    grown_item None item from atom e base v here done = (done, plain_item item v)
    grown_item (Some kind) item from atom e base v here done =
        let k = number_at kind base v done in
        down_item item from k (v ++ k ∷ []) (entry_at e (v ++ k ∷ []) (after_spawn kind atom v here done))

    abbrev pub unfold_reason : Reason → ProofItem → ℕ → List ℕ → List Passed → (ℕ → List Passed) → Progress → Progress × Passed
    unfold_reason Start item base v here real done = (done, plain_item item v)
    unfold_reason (Local l) item base v here real done = (after_local (slice_get system.local l) v done, plain_item item v)
    unfold_reason (Up l) item base v here real done = (done, plain_item item v)
    unfold_reason (Down l (Real k)) item base v here real done = down_item item (from_of (slice_get system.down l)) k (v ++ k ∷ []) (done, real k)
    unfold_reason (Down l (Grown c e)) item base v here real done = grown_item (spawned c) item (from_of (slice_get system.down l)) (needed_by c) e base v here done

    abbrev pub unfold_item : ProofItem → ℕ → List ℕ → List Passed → (ℕ → List Passed) → Progress → Progress × Passed
    unfold_item item base v here real done = unfold_reason item.reason item base v here real done

    -- the items of an entry
    abbrev pub unfold_items : List ProofItem → ℕ → List ℕ → List Passed → Progress → Progress × List Passed
    unfold_items [] base v here done = (done, here)
    unfold_items (item ∷ items) base v here done =
        let r = unfold_item item base v here (λ k. []) done in
        unfold_items items base v (here ++ r.1 ∷ []) r.0

    -- the items of the page, with what was passed at each of its nodes
    abbrev pub unfold_page : LabelTree → List PageItem → (List ℕ → List Passed) → Progress → Progress × (List ℕ → List Passed)
    unfold_page page [] passed done = (done, passed)
    unfold_page page (i ∷ items) passed done =
        let r = unfold_item i.item (unwrap_or (children_at i.at page) 0) i.at (passed i.at) (λ k. passed (i.at ++ k ∷ [])) done in
        unfold_page page items (λ q. if bytes_eq i.at q then passed q ++ r.1 ∷ [] else passed q) r.0

  module _ (entries : List Entry) where
    -- The entry of this number, at the node v. An entry names only lower ones, so that it goes as deep as there are entries.
    abbrev pub unfold_entry : ℕ → ℕ → List ℕ → Progress → Progress × List Passed
    unfold_entry zero e v done = (done, [])
    unfold_entry (suc n) e v done =
        unwrap_or (option_map (λ entry. unfold_items (unfold_entry n) entry.items (forest_children entry.kind) v [] done) (slice_get entries e)) (done, [])

  abbrev pub nothing_yet : Progress
  nothing_yet = record { steps = []; added = λ q. 0 }

  abbrev pub passing : Proof → LabelTree → Progress × (List ℕ → List Passed)
  passing proof page = unfold_page (unfold_entry proof.entries (length proof.entries)) page proof.page (λ q. []) nothing_yet

  abbrev pub unfolded : Proof → LabelTree → ℕ → List Step × List ℕ
  unfolded proof page target = let r = passing proof page in (r.0.steps, end_for target (r.1 []) [])

  -- how many steps an item makes, where `inside e` are those of the entry e
  abbrev pub local_count : Option rule.Local → ℕ
  local_count None = 0
  local_count (Some rule) = unwrap_or (option_map (λ s. 1) rule.stmt) 0

  abbrev pub spawn_count : Option Kind → ℕ → ℕ
  spawn_count None inside = 0
  spawn_count (Some kind) inside = unwrap_or (option_map (λ j. 0) kind.above) 1 + inside

  abbrev pub reason_count : (ℕ → ℕ) → Reason → ℕ
  reason_count inside Start = 0
  reason_count inside (Local l) = local_count (slice_get system.local l)
  reason_count inside (Up l) = 0
  reason_count inside (Down l (Real k)) = 0
  reason_count inside (Down l (Grown c e)) = spawn_count (spawned c) (inside e)

  abbrev pub items_count : (ℕ → ℕ) → List ProofItem → ℕ
  items_count inside items = sum_by (λ i. reason_count inside i.reason) items

  abbrev pub entry_count : List Entry → ℕ → ℕ → ℕ
  entry_count entries zero e = 0
  entry_count entries (suc n) e = unwrap_or (option_map (λ entry. items_count (entry_count entries n) entry.items) (slice_get entries e)) 0

  abbrev pub proof_steps : Proof → ℕ
  proof_steps proof = sum_by (λ i. reason_count (entry_count proof.entries (length proof.entries)) i.item.reason) proof.page
