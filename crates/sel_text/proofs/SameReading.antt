-- The machine reads what the grammar and its names come to.
use Rattle.std.proofs.Common.{◌≡◌, ℕ, zero, suc, ◌+◌, ◌-◌, Bool, true, false, nat_lt, if◌then◌else◌, List, [], ◌∷◌, ◌++◌, length, Option, None, Some, Ok, Err, refl, ap, ◌∙◌, append_assoc, append-nil, length-append}
use Rattle.std.specs.Option.{ok_or}
use Rattle.tp_base.specs.Names.{Named, with_name}
use Rattle.sel_text.specs.declared.faults.SelFault.{SelFault}
use Rattle.sel_text.specs.declared.faults.SelFault.TheVariants.{Skipped}
use Rattle.sel_text.specs.declared.faults.Skip.TheVariants.{Long, Bad}
use Rattle.sel_text.specs.declared.faults.TheConstants.{MOST_PARTS}
use Rattle.sel_text.specs.declared.selectors.Compound.{Compound}
use Rattle.sel_text.specs.declared.selectors.Join.{Join}
use Rattle.sel_text.specs.Selectors.{Selector}
use Rattle.sel_text.specs.Parts.{selector_from}
use Rattle.sel_text.specs.Bytes.{behind_gap}
use Rattle.sel_text.specs.Grammar.{Outcome, ◌>>=◌, left_at, Begun, any_part, first_part, Word, part_of, join_at}
use Rattle.sel_text.specs.Syntax.{Item, part, joined, ended, whole_part, first_item, behind_join, later_item, item_at, finished_after, begun_after, Syntax, with_item, nothing, then_syntax, syntax_from, syntax_of}
use Rattle.sel_text.specs.Reading.{Ending, then_read, table_name, placed, atoms_of, compounds_of, selector_or, read_syntax, read_piece}
use Rattle.sel_text.specs.Machine.{Draft, empty_draft, entered, with_word, with_join, with_part, first_step, behind_part, later_step, step, finished, then_run, run}

-- ---- a step is an item

abbrev Step : Type 0
Step = Outcome (Draft × List ℕ)

abbrev Items : Type 0
Items = Outcome (Item × List ℕ)

abbrev applied : Draft → Item → Outcome Draft
applied d (part w) = with_word d w
applied d (joined j) = Ok (with_join d j)
applied d ended = Ok d

abbrev next : Draft → Item × List ℕ → Step
next d x = applied d x.0 >>= λ e. Ok (e, x.1)

whole_is : (d : Draft) (p : Outcome (Option Word × List ℕ))
    → ◌≡◌ {A = Step} (p >>= λ x. with_word d x.0 >>= λ e. Ok (e, x.1)) ((p >>= λ x. Ok (part x.0, x.1)) >>= λ i. next d i)
whole_is d (Ok x) = refl
whole_is d (Err e) = refl

part_is : (to : ℕ) (d : Draft) (b : Option Begun) (bs : List ℕ)
    → ◌≡◌ {A = Step} (with_part to d b bs) ((ok_or b (left_at to bs bs) >>= λ c. whole_part to c) >>= λ i. next d i)
unfolding with_part whole_part
part_is to d None bs = refl
part_is to d (Some c) bs = whole_is d (part_of to c)

first_if : (to : ℕ) (d : Draft) (b : Begun) (few : Bool) (long : SelFault) (bs : List ℕ)
    → ◌≡◌ {A = Step} (if few then with_part to d (Some b) bs else Err long) ((if few then whole_part to b else Err long) >>= λ i. next d i)
first_if to d b true long bs = part_is to d (Some b) bs
first_if to d b false long bs = refl

first_by : (to : ℕ) (d : Draft) (o : Option Begun) (few : Bool) (left long : SelFault) (bs : List ℕ)
    → ◌≡◌ {A = Step} (ok_or o left >>= λ b. if few then with_part to d (Some b) bs else Err long) ((ok_or o left >>= λ b. if few then whole_part to b else Err long) >>= λ i. next d i)
first_by to d None few left long bs = refl
first_by to d (Some b) few left long bs = first_if to d b few long bs

first_is : (drops : Bool) (to : ℕ) (d : Draft) (bs : List ℕ) → ◌≡◌ {A = Step} (first_step drops to d bs) (first_item drops to (length d.parts) bs >>= λ i. next d i)
unfolding first_step first_item
first_is drops to d bs = first_by to d (first_part drops bs) (nat_lt (length d.parts) MOST_PARTS) (left_at to bs bs) (Skipped Long (to - length bs)) bs

behind_is : (drops : Bool) (to : ℕ) (d : Draft) (j : Option Join × List ℕ) → ◌≡◌ {A = Step} (behind_part drops to d j) (behind_join drops to j >>= λ i. next d i)
behind_is drops to d (Some j, bs) = refl
behind_is drops to d (None, []) = refl
behind_is drops to d (None, b ∷ bs) = part_is to d (any_part drops (b ∷ bs)) (b ∷ bs)

later_by : (drops : Bool) (to : ℕ) (d : Draft) (o : Outcome (Option Join × List ℕ))
    → ◌≡◌ {A = Step} (o >>= λ j. behind_part drops to d j) ((o >>= λ j. behind_join drops to j) >>= λ i. next d i)
later_by drops to d (Ok j) = behind_is drops to d j
later_by drops to d (Err e) = refl

step_by : (begun drops : Bool) (to : ℕ) (d : Draft) (bs : List ℕ)
    → ◌≡◌ {A = Step} (if begun then later_step drops to d bs else first_step drops to d bs) ((if begun then later_item drops to bs else first_item drops to (length d.parts) bs) >>= λ i. next d i)
unfolding later_step later_item
step_by true drops to d bs = later_by drops to d (join_at to bs)
step_by false drops to d bs = first_is drops to d bs

step_is : (drops : Bool) (to : ℕ) (d : Draft) (bs : List ℕ) → ◌≡◌ {A = Step} (step drops to d bs) (item_at drops to (length d.parts) d.started bs >>= λ i. next d i)
unfolding step item_at
step_is drops to d bs = step_by d.started drops to d bs

-- ---- behind a draft

abbrev read : List Named → Outcome Selector → Ending Selector
read names s = (names, s)

-- the selector of a draft and of the syntax behind it
continued : Draft → Syntax → Ending Selector
continued d s =
    then_read (atoms_of d.names s.names) (λ later atoms. then_read (compounds_of later s.others) (λ last compounds. read last (selector_or s.fault (d.parts ++ (record { atoms = d.atoms ++ atoms }) ∷ compounds) (d.joins ++ s.joins))))

end_is : (begun : Bool) (to : ℕ) (d : Draft)
    → read d.names (if begun then Ok (selector_from (d.parts ++ (record { atoms = d.atoms }) ∷ []) d.joins) else Err (Skipped Bad to)) ≡ continued d (nothing (if begun then None else Some (Skipped Bad to)))
unfolding continued atoms_of compounds_of
end_is true to d = rw (append-nil d.atoms, append-nil d.joins) refl
end_is false to d = refl

abbrev with_entry : Draft → ℕ → List Named → Draft
with_entry d a later = record d { names = later; atoms = d.atoms ++ a ∷ []; started = true }

abbrev all_atoms : ℕ → Ending (List ℕ) → Ending (List ℕ)
all_atoms a e = then_read e (λ last atoms. (last, Ok (a ∷ atoms)))

entry_by : (d : Draft) (a : ℕ) (later : List Named) (e : Ending (List ℕ)) (s : Syntax)
    → then_read e (λ later atoms. then_read (compounds_of later s.others) (λ last compounds. read last (selector_or s.fault (d.parts ++ (record { atoms = (d.atoms ++ a ∷ []) ++ atoms }) ∷ compounds) (d.joins ++ s.joins))))
    ≡ then_read (all_atoms a e) (λ later atoms. then_read (compounds_of later s.others) (λ last compounds. read last (selector_or s.fault (d.parts ++ (record { atoms = d.atoms ++ atoms }) ∷ compounds) (d.joins ++ s.joins))))
entry_by d a later (names, Ok atoms) s = rw (append_assoc d.atoms (a ∷ []) atoms) refl
entry_by d a later (names, Err e) s = refl

word_by : (d : Draft) (o : Option (ℕ × List Named)) (rest : List ℕ) (s : Syntax) (f : Draft × List ℕ → Ending Selector)
    → ((e : Draft) → e.parts ≡ d.parts → e.started ≡ true → f (e, rest) ≡ continued e s)
    → then_run d.names ((entered o >>= λ x. Ok (with_entry d x.0 x.1)) >>= λ e. Ok (e, rest)) f
    ≡ then_read (then_read (placed d.names o) (λ later a. all_atoms a (atoms_of later s.names)))
    (λ later atoms. then_read (compounds_of later s.others) (λ last compounds. read last (selector_or s.fault (d.parts ++ (record { atoms = d.atoms ++ atoms }) ∷ compounds) (d.joins ++ s.joins))))
unfolding continued
word_by d None rest s f same = refl
word_by d (Some x) rest s f same = same (with_entry d x.0 x.1) refl refl ∙ entry_by d x.0 x.1 (atoms_of x.1 s.names) s

join_last : (d : Draft) (j : Join) (atoms : List ℕ) (fault : Option SelFault) (joins : List Join) (e : Ending (List Compound))
    → then_read e (λ last compounds. read last (selector_or fault ((d.parts ++ (record { atoms = d.atoms }) ∷ []) ++ (record { atoms = atoms }) ∷ compounds) ((d.joins ++ j ∷ []) ++ joins)))
    ≡ then_read (then_read e (λ last compounds. (last, Ok ((record { atoms = atoms }) ∷ compounds)))) (λ last compounds. read last (selector_or fault (d.parts ++ (record { atoms = d.atoms ++ [] }) ∷ compounds) (d.joins ++ j ∷ joins)))
join_last d j atoms fault joins (names, Ok compounds) =
    rw (append_assoc d.parts ((record { atoms = d.atoms }) ∷ []) ((record { atoms = atoms }) ∷ compounds), append_assoc d.joins (j ∷ []) joins, append-nil d.atoms) refl
join_last d j atoms fault joins (names, Err e) = refl

join_by : (d : Draft) (j : Join) (s : Syntax) (e : Ending (List ℕ))
    → then_read e (λ later atoms. then_read (compounds_of later s.others) (λ last compounds. read last (selector_or s.fault ((d.parts ++ (record { atoms = d.atoms }) ∷ []) ++ (record { atoms = atoms }) ∷ compounds) ((d.joins ++ j ∷ []) ++ s.joins))))
    ≡ then_read (then_read e (λ later atoms. then_read (compounds_of later s.others) (λ last compounds. (last, Ok ((record { atoms = atoms }) ∷ compounds)))))
    (λ last compounds. read last (selector_or s.fault (d.parts ++ (record { atoms = d.atoms ++ [] }) ∷ compounds) (d.joins ++ j ∷ s.joins)))
join_by d j s (names, Ok atoms) = join_last d j atoms s.fault s.joins (compounds_of names s.others)
join_by d j s (names, Err e) = refl

join_is : (d : Draft) (j : Join) (s : Syntax) → continued (with_join d j) s ≡ continued d (with_item (joined j) s)
unfolding continued with_join atoms_of compounds_of
join_is d j s = join_by d j s (atoms_of d.names s.names)

-- ---- all of a text

module _ (drops : Bool) (to : ℕ) where
  abbrev behind : List ℕ → Draft → ℕ → Syntax
  behind bs d skip = syntax_from drops to (length d.parts) d.started skip bs

  item_is : (d : Draft) (bs : List ℕ) (o : Items) → ((e : Draft) (skip : ℕ) → run drops to e skip bs ≡ continued e (behind bs e skip))
      → then_run d.names (o >>= λ i. next d i) (λ r. run drops to r.0 (length bs - length r.1) bs)
      ≡ continued d (then_syntax o (λ i rest. syntax_from drops to (finished_after (length d.parts) i) (begun_after d.started i) (length bs - length rest) bs))
  unfolding continued with_word with_join atoms_of compounds_of
  item_is d bs (Err e) same = refl
  item_is d bs (Ok (ended, rest)) same = same d (length bs - length rest)
  item_is d bs (Ok (part None, rest)) same = same (record d { started = true }) (length bs - length rest)
  item_is d bs (Ok (part (Some w), rest)) same =
      let s = syntax_from drops to (length d.parts) true (length bs - length rest) bs in
      word_by d (with_name d.names (table_name w)) rest s (λ r. run drops to r.0 (length bs - length r.1) bs)
      (λ e parts started. same e (length bs - length rest) ∙ rw (parts, started) refl)
  item_is d bs (Ok (joined j, rest)) same =
      let skip = length bs - length rest in
      same (with_join d j) skip ∙ ap (λ n. continued (with_join d j) (syntax_from drops to n false skip bs)) (length-append d.parts ((record { atoms = d.atoms }) ∷ []))
      ∙ join_is d j (syntax_from drops to (length d.parts + 1) false skip bs)

  run_is : (d : Draft) (skip : ℕ) (bs : List ℕ) → run drops to d skip bs ≡ continued d (behind bs d skip)
  unfolding run finished syntax_from
  run_is d skip [] = end_is d.started to d
  run_is d (suc skip) (b ∷ bs) = run_is d skip bs
  run_is d zero (b ∷ bs) =
      rw (step_is drops to d (b ∷ bs)) (item_is d bs (item_at drops to (length d.parts) d.started (b ∷ bs)) (λ e skip. run_is e skip bs))

first_last : (atoms : List ℕ) (s : Syntax) (e : Ending (List Compound))
    → then_read e (λ last compounds. read last (selector_or s.fault ((record { atoms = atoms }) ∷ compounds) s.joins))
    ≡ then_read (then_read e (λ last compounds. (last, Ok ((record { atoms = atoms }) ∷ compounds)))) (λ last compounds. read last (selector_or s.fault compounds s.joins))
first_last atoms s (names, Ok compounds) = refl
first_last atoms s (names, Err e) = refl

first_by_atoms : (s : Syntax) (e : Ending (List ℕ))
    → then_read e (λ later atoms. then_read (compounds_of later s.others) (λ last compounds. read last (selector_or s.fault ((record { atoms = atoms }) ∷ compounds) s.joins)))
    ≡ then_read (then_read e (λ later atoms. then_read (compounds_of later s.others) (λ last compounds. (last, Ok ((record { atoms = atoms }) ∷ compounds))))) (λ last compounds. read last (selector_or s.fault compounds s.joins))
first_by_atoms s (names, Ok atoms) = first_last atoms s (compounds_of names s.others)
first_by_atoms s (names, Err e) = refl

empty_is : (names : List Named) (s : Syntax) → continued (empty_draft names) s ≡ read_syntax s names
unfolding continued read_syntax compounds_of
empty_is names s = first_by_atoms s (atoms_of names s.names)

-- a text that begins behind a gap
pub same_reading : (drops : Bool) (to : ℕ) (text : List ℕ) (names : List Named) → run drops to (empty_draft names) 0 (behind_gap true 0 text) ≡ read_piece drops to text names
unfolding read_piece syntax_of
same_reading drops to text names = run_is drops to (empty_draft names) 0 (behind_gap true 0 text) ∙ empty_is names (syntax_of drops to text)
