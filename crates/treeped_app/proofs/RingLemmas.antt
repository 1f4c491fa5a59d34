-- The texts of each ring are read.
use Rattle.std.proofs.Common.{◌≡◌, ℕ, ◌+◌, ◌*◌, ◌≤◌, Bool, true, false, if◌then◌else◌, List, [], ◌∷◌, length, map, Contains, Option, Some, None, option_map, option_and_then, Result, Ok, Err, refl, sym, ap, ◌∙◌, inl, inr, subst, arith}
use Rattle.std.specs.Prelude.{IfSome}
use Rattle.tp_base.specs.Names.{Named}
use Rattle.tp_base.specs.declared.atoms.TheConstants.{MOST_ATOMS}
use Rattle.tp_base.proofs.Rising.{Contains-cons, Contains-none}
use Rattle.html_subset.specs.Reading.{read_page}
use Rattle.css_read.specs.Reading.{read_sheet}
use Rattle.jq_stmts.specs.Sharp.{ExactStatement, exact_statement, wides}
use Rattle.jq_words.specs.Words.{Outcome, ◌>>=◌}
use Rattle.jq_read.specs.Script.{script_with, script}
use Rattle.run_ends.specs.declared.stops.Stop.{Stop}
use Rattle.run_ends.specs.declared.refusals.Part.TheVariants.{Page}
use Rattle.run_ends.specs.Refusals.{page_stop, sheet_stop}
use Rattle.triple_gen.specs.declared.triple.TheConstants.{MOST_BOXES}
use Rattle.triple_gen.specs.Ring as rings
use Rattle.command_words.specs.declared.words.Mode.{Mode}
use Rattle.command_words.specs.declared.words.Order.{Order}
use Rattle.command_words.specs.Orders.{is_report, takes_pages, order_of}
use Rattle.command_words.proofs.LawLemmas as words
use Rattle.ring_reads.specs.Readings.{IsRead}
use Rattle.ring_reads.proofs.PageLemmas.{reads_pages}
use Rattle.ring_reads.proofs.RingSheets.{reads_sheets}
use Rattle.ring_reads.proofs.ScriptParts.{reads_classes, reads_roots}
use Rattle.ring_reads.proofs.ScriptForest.{reads_markup}
use Rattle.ring_reads.proofs.ScriptLines.{scans_rings}
use Rattle.treeped_app.specs.Modes.{Texts, Inputs, reads_exactly}
use Rattle.treeped_app.specs.Tasks.{Source, one, several, ring, Origin, named, generated, Visit, visits, visits_from, Task, task_by, task_of, site_of, page_of, files_of, source_by, command}
use Rattle.treeped_app.specs.Readings.{Told, ring_texts, read_as, plainly, statements_in, read_inputs}
use Rattle.treeped_app.specs.Commands.{AreToldFrom, ReadFrom, IsWell}
use Rattle.treeped_app.proofs.RingLines.{IsOk, script_read}

-- ---- the three texts

of_ending : {A E : Type 0} (stop : E → Stop) (n : ℕ) (e : List Named × Result A E) → IsRead n e → (x : A) × (names : List Named) × (read_as stop e ≡ Ok (x, names)) × (length names ≤ n)
of_ending stop n (names, Ok x) few = (x, names, refl, few)
of_ending stop n (names, Err e) few = absurd few

of_exact : (r : Outcome (List ExactStatement × List Named)) → IsOk r → (x : List ExactStatement × List Named) × (r ≡ Ok x)
of_exact (Ok x) is = (x, refl)
of_exact (Err e) is = absurd is

of_plain : (r : Outcome (List ExactStatement × List Named)) → IsOk r → (x : List ExactStatement × List Named) × (plainly (r >>= λ read. Ok (wides read.0, read.1)) ≡ Ok x)
of_plain (Ok x) is = ((map exact_statement (wides x.0), x.1), refl)
of_plain (Err e) is = absurd is

statements_read : (m : Mode) (n : ℕ) (names : List Named) → n ≤ MOST_BOXES → length names + 2202 ≤ MOST_ATOMS → (x : List ExactStatement × List Named) × (statements_in m (rings.script n) names ≡ Ok x)
unfolding script
statements_read m n names few room = by (reads_exactly m)
  where
    by : (exact : Bool) → (x : List ExactStatement × List Named) × ((if exact then script_with true (rings.script n) names else plainly (script (rings.script n) names)) ≡ Ok x)
    by true = of_exact (script_with true (rings.script n) names) (script_read reads_classes reads_roots reads_markup scans_rings true n names few room)
    by false = of_plain (script_with false (rings.script n) names) (script_read reads_classes reads_roots reads_markup scans_rings false n names few room)

pub ring_read : (m : Mode) (page : Option ℕ) (k : ℕ) → k ≤ MOST_BOXES → (i : Inputs) × (read_inputs m page (ring_texts k) ≡ Ok i)
unfolding read_inputs
ring_read m page k few =
    let p = of_ending (page_stop (Page page) (rings.page k)) (3 + k * 8) (read_page (rings.page k) []) (reads_pages k few) in
    let many = p.3 in
    let s = of_ending (sheet_stop (rings.sheet k)) (length p.1 + k * 100) (read_sheet (rings.sheet k) p.1) (reads_sheets k p.1 few (omega (arith, few, many))) in
    let more = s.3 in
    let j = statements_read m k s.1 few (omega (arith, few, many, more)) in
    let inputs : Inputs = record { tree = p.0; sheet = s.0; stmts = wides j.0.0; exact = j.0.0; names = j.0.1 } in
    (inputs, rw (p.2, s.2, j.1) refl)

-- ---- how large a ring is

ring_inside : (s : Source) (v : Visit) → Contains (visits s) v → (k : ℕ) → v.origin ≡ generated k → s ≡ ring k
ring_inside (one n) v there k is = elim ((Contains-cons v _ []).0 there) [
  | inl same ↦ let origin = sym (ap (λ (w : Visit). w.origin) same) ∙ is in cc
  | inr behind ↦ absurd (Contains-none v behind)
]
ring_inside (several sheet []) v there k is = absurd (Contains-none v there)
ring_inside (several sheet ((page, script) ∷ pairs)) v there k is = elim ((Contains-cons v _ _).0 there) [
  | inl same ↦ let origin = sym (ap (λ (w : Visit). w.origin) same) ∙ is in cc
  | inr behind ↦ absurd (from_files 2 pairs behind)
]
  where
    from_files : (n : ℕ) (pairs : List (List ℕ × List ℕ)) → Contains (visits_from n sheet pairs) v → ⊥
    from_files n [] there = Contains-none v there
    from_files n ((page, script) ∷ pairs) there = elim ((Contains-cons v _ _).0 there) [
      | inl same ↦ let origin = sym (ap (λ (w : Visit). w.origin) same) ∙ is in cc
      | inr behind ↦ from_files (n + 1) pairs behind
    ]
ring_inside (ring j) v there k is = elim ((Contains-cons v _ []).0 there) [
  | inl same ↦ let origin = sym (ap (λ (w : Visit). w.origin) same) ∙ is in cc
  | inr behind ↦ absurd (Contains-none v behind)
]

files_no_ring : (m : Mode) (names : List (List ℕ)) (k : ℕ) → files_of m names ≡ Some (ring k) → ⊥
files_no_ring m names k is = by (takes_pages m) is
  where
    no_site : (names : List (List ℕ)) → site_of names ≡ Some (ring k) → ⊥
    no_site [] is = cc
    no_site (a ∷ []) is = cc
    no_site (a ∷ b ∷ []) is = cc
    no_site (a ∷ b ∷ c ∷ names) is = cc

    no_page : (names : List (List ℕ)) → page_of names ≡ Some (ring k) → ⊥
    no_page [] is = cc
    no_page (a ∷ []) is = cc
    no_page (a ∷ b ∷ []) is = cc
    no_page (a ∷ b ∷ c ∷ []) is = cc
    no_page (a ∷ b ∷ c ∷ d ∷ names) is = cc

    by : (test : Bool) → (if test then site_of names else page_of names) ≡ Some (ring k) → ⊥
    by true is = no_site names is
    by false is = no_page names is

source_few : (m : Mode) (names : List (List ℕ)) (size : Option ℕ) (k : ℕ) → IfSome size (λ n. n ≤ MOST_BOXES) → source_by m names size ≡ Some (ring k) → k ≤ MOST_BOXES
source_few m names None k few is = absurd (files_no_ring m names k is)
source_few m names (Some j) k few is = by (is_report m) is
  where
    by : (test : Bool) → (if test then Some (ring j) else None) ≡ Some (ring k) → k ≤ MOST_BOXES
    by true is = let same : j ≡ k = cc in subst (λ n. n ≤ MOST_BOXES) same few
    by false is = cc

ring_few : (ws : List (List ℕ)) (t : Task) (k : ℕ) → command ws ≡ Some t → t.source ≡ ring k → k ≤ MOST_BOXES
ring_few ws t k is source = by (order_of ws) refl is
  where
    of : (o : Order) (s : Option Source) → source_by o.mode o.names o.size ≡ s → option_map (λ (x : Source). task_by x o.mode o.limits) s ≡ Some t → source_by o.mode o.names o.size ≡ Some (ring k)
    of o None found task = cc
    of o (Some s) found task = let same : task_by s o.mode o.limits ≡ t = cc in found ∙ ap (λ (x : Source). Some x) (ap (λ (u : Task). u.source) same ∙ source)

    by : (o : Option Order) → order_of ws ≡ o → option_and_then task_of o ≡ Some t → k ≤ MOST_BOXES
    by None found task = cc
    by (Some o) found task = source_few o.mode o.names o.size k (words.few ws o found) (of o (source_by o.mode o.names o.size) refl task)

-- ---- what is well is read

read_from : (m : Mode) (page : Option ℕ) (told : Told) (o : Origin) (x : Texts) (i : Inputs) → AreToldFrom told o x → ((k : ℕ) → o ≡ generated k → k ≤ MOST_BOXES) → ReadFrom o (read_inputs m page x) i → read_inputs m page x ≡ Ok i
read_from m page told (named n) x i is few read = read
read_from m page told (generated k) x i is few read =
    let found = ring_read m page k (few k refl) in
    let all : read_inputs m page x ≡ Ok found.0 = ap (λ (y : Texts). read_inputs m page y) is ∙ found.1 in
    all ∙ ap (λ (j : Inputs). Ok j) (read found.0 all)

pub well_read : (ws : List (List ℕ)) (told : Told) (t : Task) (v : Visit) → command ws ≡ Some t → Contains (visits t.source) v → (its : IsWell told t v) → read_inputs t.mode v.number its.texts ≡ Ok its.inputs
well_read ws told t v task there its = read_from t.mode v.number told v.origin its.texts its.inputs its.are_told (λ k is. ring_few ws t k task (ring_inside t.source v there k is)) its.read
