-- From the end of a run to the causes of its answers.
use Rattle.std.proofs.Common.{◌≡◌, ◌⊎◌, ℕ, ◌+◌, ◌≤◌, ◌<◌, ◌||◌, Bool, true, false, List, [], ◌∷◌, ◌++◌, length, Contains, Option, Some, None, IfSome, Result, Ok, Err, refl, sym, ap, ◌∙◌, inl, inr, subst, append_assoc, append-nil, arith}
use Rattle.std.specs.List.{list_any}
use Rattle.std.proofs.lemmas.Bool.{true≢false}
use Rattle.std.proofs.lemmas.List.{append_cancel_left}
use Rattle.std.proofs.lemmas.List.Elements.{Contains-append_right}
use Rattle.tp_base.proofs.Rising.{Contains-here, Contains-behind, Contains-cons, Contains-none}
use Rattle.tp_io.specs.Files.{Load}
use Rattle.tp_io.specs.Sinks.{Adds, Rose}
use Rattle.tp_base.specs.declared.places.TheConstants.{MOST_BYTES}
use Rattle.tp_base.proofs.Truths.{or_assoc, or_false}
use Rattle.run_ends.specs.declared.status.Status.{Status}
use Rattle.run_ends.specs.declared.status.Status.TheVariants as status
use Rattle.run_ends.specs.declared.refusals.JudgeRefusal.{JudgeRefusal}
use Rattle.run_ends.specs.declared.refusals.JudgeRefusal.TheVariants.{TooManyAtoms, TooManyVisible}
use Rattle.run_ends.specs.declared.refusals.Part.{Part}
use Rattle.run_ends.specs.declared.stops.Stop.{Stop}
use Rattle.run_ends.specs.declared.stops.Stop.TheVariants.{Words, TooLarge, ReadFault, Unread, Judging, WriteFault, NoMemory}
use Rattle.command_words.specs.declared.words.Mode.{Mode}
use Rattle.treeped_app.specs.Modes.{Texts, Inputs, Said, AreAnswersOf, IsOverBudget, text_of, status_by, status_of}
use Rattle.treeped_app.specs.Tasks.{Names, Source, one, several, ring, Wanted, Origin, named, generated, Visit, visits, visits_from, with_sheet, succeeded, failed, loads_of, all_loads, Task, command}
use Rattle.run_ends.specs.Stops.{line_of, status_of_stop}
use Rattle.run_ends.specs.Tells.{Put}
use Rattle.treeped_app.specs.Runs.{Told, Run, Ends, Fit, AreFrom, AreTexts, Exceeds, read_inputs, IsRefusedBy, IsJudgeable, IsSaid, AreSaid, IsWhole, IsAt, IsLast}
use Rattle.treeped_app.proofs.BudgetLemmas.{OverOn, left_open, all_decided, doubt_sharp}
use Rattle.treeped_app.proofs.RingLemmas.{well_read}
use Rattle.run_ends.specs.Tells.{Says, SaysWhy}
use Rattle.treeped_app.specs.Commands.{Reports, IsTold, IsEnded, Fails, IsRefusal, FailedAt, AreToldFrom, FitFrom, IsWell, AreWell, HasVisit, IsRefusedOrFails, NothingFails, HasMaybe, IsInDoubt, Causes, Headline}

-- the stops whose line is said whole or not at all
abbrev IsLined : Stop → Type 0
IsLined Words = Unit {0}
IsLined (TooLarge part) = Unit {0}
IsLined (ReadFault part) = Unit {0}
IsLined (Unread refusal) = Unit {0}
IsLined (Judging refusal) = Unit {0}
IsLined WriteFault = ⊥
IsLined NoMemory = ⊥

module _ (r : Run) (err : Put) (s : Status) where
  -- the five ways in which a run ends
  data IsOne : Type 0 where
    reported : Reports s → Ends r (Ok s) → IsOne
    said_whole : (stop : Stop) → IsLined stop → Ends r (Err stop) → s ≡ status_of_stop stop → Adds err.held err.held' (line_of stop) → IsOne
    cut : (stop : Stop) → Ends r (Err stop) → Fails err s → IsOne
    unwritten : Ends r (Err WriteFault) → s ≡ status.WriteFault → IsOne
    spent : s ≡ status.NoMemory → IsOne

  status_reports : (a b : Bool) → s ≡ status_by a b → Reports s
  status_reports true b is = inr (inr is)
  status_reports false true is = inr (inl is)
  status_reports false false is = inl is

  lined : (stop : Stop) → IsLined stop → Ends r (Err stop) → Says stop err s → IsOne
  lined stop is ends (inl whole) = said_whole stop is ends whole.0 whole.1
  lined stop is ends (inr (inl fault)) = cut stop ends (inl (fault.1.2.0, fault.0))
  lined stop is ends (inr (inr short)) = cut stop ends (inr short.2.0)

  one_end : (end : Result Status Stop) → Ends r end → IsTold end err s → IsOne
  one_end (Ok e) ends told = reported (status_reports _ _ (told.0 ∙ ends.4)) (subst (λ (t : Status). Ends r (Ok t)) (sym told.0) ends)
  one_end (Err Words) ends told = lined Words tt ends told
  one_end (Err (TooLarge part)) ends told = lined (TooLarge part) tt ends told
  one_end (Err (ReadFault part)) ends told = lined (ReadFault part) tt ends told
  one_end (Err (Unread refusal)) ends told = lined (Unread refusal) tt ends told
  one_end (Err (Judging refusal)) ends told = lined (Judging refusal) tt ends told
  one_end (Err WriteFault) ends told = unwritten ends told.0
  one_end (Err NoMemory) ends told = spent told.0

-- what one status isn't
module _ (err : Put) (s : Status) where
  no_report_of_words : Reports s → s ≡ status.Words → ⊥
  no_report_of_words (inl a) b = cc
  no_report_of_words (inr (inl a)) b = cc
  no_report_of_words (inr (inr a)) b = cc

  no_report_of_refused : Reports s → s ≡ status.Refused → ⊥
  no_report_of_refused (inl a) b = cc
  no_report_of_refused (inr (inl a)) b = cc
  no_report_of_refused (inr (inr a)) b = cc

  no_report_of_read_fault : Reports s → s ≡ status.ReadFault → ⊥
  no_report_of_read_fault (inl a) b = cc
  no_report_of_read_fault (inr (inl a)) b = cc
  no_report_of_read_fault (inr (inr a)) b = cc

  no_report_of_write_fault : Reports s → s ≡ status.WriteFault → ⊥
  no_report_of_write_fault (inl a) b = cc
  no_report_of_write_fault (inr (inl a)) b = cc
  no_report_of_write_fault (inr (inr a)) b = cc

  no_failure_of_words : Fails err s → s ≡ status.Words → ⊥
  no_failure_of_words (inl a) b = let a' = a.0 in cc
  no_failure_of_words (inr a) b = cc

  no_failure_of_refused : Fails err s → s ≡ status.Refused → ⊥
  no_failure_of_refused (inl a) b = let a' = a.0 in cc
  no_failure_of_refused (inr a) b = cc

  no_failure_of_read_fault : Fails err s → s ≡ status.ReadFault → ⊥
  no_failure_of_read_fault (inl a) b = let a' = a.0 in cc
  no_failure_of_read_fault (inr a) b = cc

-- ---- loads

abbrev any_failed : List Load → Bool
any_failed loads = list_any (λ (l : Load). l.failed) loads

any_joined : (xs ys : List Load) → any_failed (xs ++ ys) ≡ (any_failed xs || any_failed ys)
any_joined [] ys = refl
any_joined (x ∷ xs) ys = ap (λ b. x.failed || b) (any_joined xs ys) ∙ sym (or_assoc x.failed (any_failed xs) (any_failed ys))

all_had : (ws : List Wanted) → any_failed (loads_of ws) ≡ false
all_had [] = refl
all_had (w ∷ ws) = all_had ws

all_succeed : (vs : List Visit) → any_failed (all_loads vs) ≡ false
all_succeed [] = refl
all_succeed (v ∷ vs) = any_joined (loads_of v.wanted) (all_loads vs) ∙ ap (λ b. b || any_failed (all_loads vs)) (all_had v.wanted) ∙ all_succeed vs

-- the loads of some visits, of some files, and one more
abbrev up_to : List Visit → List Wanted → Load → List Load
up_to done before last = all_loads done ++ (loads_of before ++ last ∷ [])

one_more : (done : List Visit) (before : List Wanted) (last : Load) → any_failed (up_to done before last) ≡ last.failed
one_more done before last =
    any_joined (all_loads done) (loads_of before ++ last ∷ [])
    ∙ ap (λ b. b || any_failed (loads_of before ++ last ∷ [])) (all_succeed done)
    ∙ any_joined (loads_of before) (last ∷ [])
    ∙ ap (λ b. b || any_failed (last ∷ [])) (all_had before)
    ∙ or_false last.failed

grouped : (loads : List Load) (done : List Visit) (before : List Wanted) (last : Load) → loads ++ all_loads done ++ loads_of before ++ last ∷ [] ≡ loads ++ up_to done before last
grouped loads done before last = append_assoc (loads ++ all_loads done) (loads_of before) (last ∷ []) ∙ append_assoc loads (all_loads done) (loads_of before ++ last ∷ [])

-- loads that all succeeded don't end with one that failed
not_failed_at : (r : Run) (t : Task) (part : Part) (loads : List Load) → r.loads' ≡ r.loads ++ loads → any_failed loads ≡ false → FailedAt r t part → ⊥
not_failed_at r t part loads is none at =
    let same : loads ≡ up_to at.done at.before (failed at.file.name) =
    append_cancel_left r.loads loads (up_to at.done at.before (failed at.file.name)) (sym is ∙ at.loads ∙ grouped r.loads at.done at.before (failed at.file.name)) in
    true≢false (sym (one_more at.done at.before (failed at.file.name)) ∙ ap any_failed (sym same) ∙ none)

-- ---- visits

-- what is loaded for a visit are the three files of its origin
abbrev IsNamed : Origin → Wanted → Type 0
IsNamed (named n) w = (w.name ≡ n.page) ⊎ (w.name ≡ n.sheet) ⊎ (w.name ≡ n.script)
IsNamed (generated k) w = ⊥

abbrev AreNamed : List Visit → Type 0
AreNamed vs = (v : Visit) → Contains vs v → (w : Wanted) → Contains v.wanted w → IsNamed v.origin w

-- of the first of a list, and the others
named_first : (v : Visit) (vs : List Visit) → ((w : Wanted) → Contains v.wanted w → IsNamed v.origin w) → AreNamed vs → AreNamed (v ∷ vs)
named_first v vs first others x there = elim ((Contains-cons x v vs).0 there) [
  | inl same ↦ subst (λ (z : Visit). (w : Wanted) → Contains z.wanted w → IsNamed z.origin w) (sym same) first
  | inr behind ↦ others x behind
]

two_named : (n : Names) (a b : Wanted) → IsNamed (named n) a → IsNamed (named n) b → (w : Wanted) → Contains (a ∷ b ∷ []) w → IsNamed (named n) w
two_named n a b first second w there = elim ((Contains-cons w a (b ∷ [])).0 there) [
  | inl same ↦ subst (λ (z : Wanted). IsNamed (named n) z) (sym same) first
  | inr behind ↦ elim ((Contains-cons w b []).0 behind) [
    | inl same ↦ subst (λ (z : Wanted). IsNamed (named n) z) (sym same) second
    | inr none ↦ absurd (Contains-none w none)
  ]
]

three_named : (n : Names) (a b c : Wanted) → IsNamed (named n) a → IsNamed (named n) b → IsNamed (named n) c → (w : Wanted) → Contains (a ∷ b ∷ c ∷ []) w → IsNamed (named n) w
three_named n a b c first second third w there = elim ((Contains-cons w a (b ∷ c ∷ [])).0 there) [
  | inl same ↦ subst (λ (z : Wanted). IsNamed (named n) z) (sym same) first
  | inr behind ↦ two_named n b c second third w behind
]

no_visits : AreNamed []
no_visits v there = absurd (Contains-none v there)

from_named : (k : ℕ) (sheet : List ℕ) (pairs : List (List ℕ × List ℕ)) → AreNamed (visits_from k sheet pairs)
from_named k sheet [] = no_visits
from_named k sheet ((page, script) ∷ pairs) =
    named_first _ _ (two_named (record { page = page; sheet = sheet; script = script }) _ _ (inl refl) (inr (inr refl))) (from_named (k + 1) sheet pairs)

sheet_named : (sheet : List ℕ) (pairs : List (List ℕ × List ℕ)) → AreNamed (with_sheet sheet (visits_from 1 sheet pairs))
sheet_named sheet [] = no_visits
sheet_named sheet ((page, script) ∷ pairs) =
    named_first _ _ (three_named (record { page = page; sheet = sheet; script = script }) _ _ _ (inr (inl refl)) (inl refl) (inr (inr refl))) (from_named 2 sheet pairs)

all_named : (source : Source) → AreNamed (visits source)
all_named (one n) = named_first _ [] (three_named n _ _ _ (inl refl) (inr (inl refl)) (inr (inr refl))) no_visits
all_named (several sheet pairs) = sheet_named sheet pairs
all_named (ring k) = named_first _ [] (λ w there. absurd (Contains-none w there)) no_visits

-- what is said of a visit
said_in : (told : Told) (t : Task) (vs : List Visit) (said : List Said) → AreSaid told t vs said → (v : Visit) → Contains vs v → (s : Said) × Contains said s × IsSaid told t v s
said_in told t [] [] all v there = absurd (Contains-none v there)
said_in told t [] (s ∷ said) all v there = absurd all
said_in told t (w ∷ vs) [] all v there = absurd all
said_in told t (w ∷ vs) (s ∷ said) all v there = elim ((Contains-cons v w vs).0 there) [
  | inl same ↦ (s, Contains-here s s said refl, subst (λ (z : Visit). IsSaid told t z s) (sym same) all.0)
  | inr behind ↦ let rest = said_in told t vs said all.1 v behind in (rest.0, Contains-behind rest.0 s said rest.1, rest.2)
]

-- ---- texts

one_text : (o : Option (List ℕ)) (text text' : List ℕ) → o ≡ Some text → IfSome o (λ bytes. text' ≡ bytes) → text' ≡ text
one_text None text text' is holds = cc
one_text (Some bytes) text text' is holds = let same : bytes ≡ text = cc in holds ∙ same

one_task : (r : Run) (t t' : Task) → command r.words ≡ Some t → command r.words ≡ Some t' → t' ≡ t
one_task r t t' is is' = let same : Some t ≡ Some t' = sym is ∙ is' in cc

texts_told : (told : Told) (o : Origin) (x x' : Texts) → AreToldFrom told o x → AreFrom told o x' → x' ≡ x
texts_told told (named n) x x' are from =
    let page = one_text (told n.page) x.page x'.page are.page from.page in
    let sheet = one_text (told n.sheet) x.sheet x'.sheet are.sheet from.sheet in
    let script = one_text (told n.script) x.script x'.script are.script from.script in
    λ k. record { page = page k; sheet = sheet k; script = script k }
texts_told told (generated k) x x' are from = from ∙ sym are

fit_from : (o : Origin) (x : Texts) → Fit x → FitFrom o x
fit_from (named n) x fits = fits
fit_from (generated k) x fits = tt

not_exceeding : (o : Option (List ℕ)) (text : List ℕ) → o ≡ Some text → length text ≤ MOST_BYTES → IfSome o (λ bytes. MOST_BYTES < length bytes) → ⊥
not_exceeding None text is within over = cc
not_exceeding (Some bytes) text is within over = let same : bytes ≡ text = cc in let over' : MOST_BYTES < length text = rw same at over in omega arith

none_exceeds : (told : Told) (o : Origin) (x : Texts) (w : Wanted) → IsNamed o w → AreToldFrom told o x → FitFrom o x → Exceeds told w.name → ⊥
none_exceeds told (named n) x w (inl page) are fits over = not_exceeding (told n.page) x.page are.page fits.page (subst (λ (z : List ℕ). Exceeds told z) page over)
none_exceeds told (named n) x w (inr (inl sheet)) are fits over = not_exceeding (told n.sheet) x.sheet are.sheet fits.sheet (subst (λ (z : List ℕ). Exceeds told z) sheet over)
none_exceeds told (named n) x w (inr (inr script)) are fits over = not_exceeding (told n.script) x.script are.script fits.script (subst (λ (z : List ℕ). Exceeds told z) script over)
none_exceeds told (generated k) x w none are fits over = absurd none

-- what has answers isn't refused
refused_and_judged : (m : Mode) (i : Inputs) (f : JudgeRefusal) → IsRefusedBy m i f → IsJudgeable m i → ⊥
refused_and_judged m i TooManyAtoms many within = let few = within.0 in omega (arith, many, few)
refused_and_judged m i TooManyVisible many within = let few = within.1 in let more = many.1 in omega (arith, more, few)

-- ---- a visit, and a run whose visits were all loaded, read and judged

module _ (r : Run) (t : Task) (v : Visit) (x : Texts) (has : HasVisit r t v x) (t' : Task) (said : List Said) (whole : IsWhole r t' said) where
  same_task : t' ≡ t
  same_task = one_task r t t' has.task whole.task

  of_visit : (s : Said) × Contains said s × IsSaid r.told t v s
  of_visit = said_in r.told t (visits t.source) said (subst (λ (u : Task). AreSaid r.told u (visits u.source) said) same_task whole.all) v has.there

  same_texts : of_visit.0.texts ≡ x
  same_texts = texts_told r.told v.origin x of_visit.0.texts has.are_told of_visit.2.texts.from

  reads : read_inputs t.mode v.number x ≡ Ok of_visit.0.inputs
  reads = subst (λ (z : Texts). read_inputs t.mode v.number z ≡ Ok of_visit.0.inputs) same_texts of_visit.2.read

  fits : FitFrom v.origin x
  fits = fit_from v.origin x (subst (λ (z : Texts). Fit z) same_texts of_visit.2.texts.fit)

  judgeable : IsJudgeable t.mode of_visit.0.inputs
  judgeable = of_visit.2.answers.are.within

-- ---- a visit at which a run stops

module _ (r : Run) (t : Task) (task : command r.words ≡ Some t) (well : AreWell r.told t) (t' : Task) (done : List Visit) (v : Visit) (at : IsAt r t' done v) where
  this_task : t' ≡ t
  this_task = one_task r t t' task at.task

  there : Contains (visits t.source) v
  there =
      subst (λ (u : Task). Contains (visits u.source) v) this_task
      (subst (λ (z : List Visit). Contains z v) (sym at.order) (Contains-append_right done (v ∷ at.later) v (Contains-here v v at.later refl)))

  abbrev its : IsWell r.told t v
  its = well v there

  not_too_large : (w : Wanted) (last : Load) → IsLast r done v w last → Exceeds r.told w.name → ⊥
  not_too_large w last is over =
      none_exceeds r.told v.origin its.texts w
      (all_named t.source v there w (subst (λ (z : List Wanted). Contains z w) (sym is.order) (Contains-append_right is.before (w ∷ is.after) w (Contains-here w w is.after refl))))
      its.are_told its.fit over

  is_read : (y : Texts) → AreTexts r.told v y → read_inputs t'.mode v.number y ≡ Ok its.inputs
  is_read y texts =
      subst (λ (u : Task). read_inputs u.mode v.number y ≡ Ok its.inputs) (sym this_task)
      (subst (λ (z : Texts). read_inputs t.mode v.number z ≡ Ok its.inputs) (sym (texts_told r.told v.origin its.texts y its.are_told texts.from)) (well_read r.words r.told t v task there its))

  not_unread : (y : Texts) (stop : Stop) → AreTexts r.told v y → read_inputs t'.mode v.number y ≡ Err stop → ⊥
  not_unread y stop texts unread = let read = is_read y texts in cc

  not_refused : (y : Texts) (i : Inputs) (f : JudgeRefusal) → AreTexts r.told v y → read_inputs t'.mode v.number y ≡ Ok i → IsRefusedBy t'.mode i f → ⊥
  not_refused y i f texts read refused =
      let both : Ok its.inputs ≡ Ok i = sym (is_read y texts) ∙ read in
      let one' : its.inputs ≡ i = cc in
      refused_and_judged t.mode i f (subst (λ (u : Task). IsRefusedBy u.mode i f) this_task refused) (subst (λ (j : Inputs). IsJudgeable t.mode j) one' its.judgeable)

failed_at : (r : Run) (t : Task) (done : List Visit) (v : Visit) (w : Wanted) (part : Part) → IsAt r t done v → IsLast r done v w (failed w.name) → w.part ≡ part → FailedAt r t part
failed_at r t done v w part at last is = record {
  done = done;
  visit = v;
  later = at.later;
  order = at.order;
  before = last.before;
  file = w;
  after = last.after;
  wanted = last.order;
  is = is;
  loads = last.loads;
}

-- ---- budgets

said_by : (told : Told) (t : Task) (vs : List Visit) (said : List Said) → AreSaid told t vs said → (x : Said) → Contains said x → (v : Visit) × Contains vs v × IsSaid told t v x
said_by told t [] [] all x mine = absurd (Contains-none x mine)
said_by told t [] (s ∷ said) all x mine = absurd all
said_by told t (v ∷ vs) [] all x mine = absurd all
said_by told t (v ∷ vs) (s ∷ said) all x mine = elim ((Contains-cons x s said).0 mine) [
  | inl same ↦ (v, Contains-here v v vs refl, subst (λ (z : Said). IsSaid told t v z) (sym same) all.0)
  | inr behind ↦ let rest = said_by told t vs said all.1 x behind in (rest.0, Contains-behind rest.0 v vs rest.1, rest.2)
]

-- what is said of each page
answers_on : (r : Run) (t : Task) (said : List Said) → IsWhole r t said → (x : Said) → Contains said x → AreAnswersOf t.mode t.limits x.inputs x.items x.others
answers_on r t said whole x there = (said_by r.told t (visits t.source) said whole.all x there).2.answers

within_all : (r : Run) (t : Task) → command r.words ≡ Some t → (well : AreWell r.told t) → ((v : Visit) (there : Contains (visits t.source) v) → ¬ IsOverBudget t.mode t.limits (well v there).inputs)
    → (t' : Task) (said : List Said) → IsWhole r t' said → (x : Said) → Contains said x → IsOverBudget t'.mode t'.limits x.inputs → ⊥
within_all r t task well enough t' said whole x there over =
    let same = one_task r t t' task whole.task in
    let all' = subst (λ (u : Task). AreSaid r.told u (visits u.source) said) same whole.all in
    let of = said_by r.told t (visits t.source) said all' x there in
    let its' = well of.0 of.1 in
    let texts = texts_told r.told of.0.origin its'.texts x.texts its'.are_told of.2.texts.from in
    let both : Ok x.inputs ≡ Ok its'.inputs = sym of.2.read ∙ ap (read_inputs t.mode of.0.number) texts ∙ well_read r.words r.told t of.0 task of.1 its' in
    let inputs : x.inputs ≡ its'.inputs = cc in
    enough of.0 of.1 (subst (λ (i : Inputs). IsOverBudget t.mode t.limits i) inputs (subst (λ (u : Task). IsOverBudget u.mode u.limits x.inputs) same over))

-- ---- the causes, from the ways in which a run ends

module _ (r : Run) (err : Put) (s : Status) where
  words_of : IsOne r err s → s ≡ status.Words → command r.words ≡ None
  words_of (reported report ends) is = absurd (no_report_of_words err s report is)
  words_of (said_whole Words lined ends status_is line) is = ends.0
  words_of (said_whole (TooLarge part) lined ends status_is line) is = cc
  words_of (said_whole (ReadFault part) lined ends status_is line) is = cc
  words_of (said_whole (Unread refusal) lined ends status_is line) is = cc
  words_of (said_whole (Judging refusal) lined ends status_is line) is = cc
  words_of (said_whole WriteFault lined ends status_is line) is = cc
  words_of (said_whole NoMemory lined ends status_is line) is = cc
  words_of (cut stop ends fails) is = absurd (no_failure_of_words err s fails is)
  words_of (unwritten ends status_is) is = cc
  words_of (spent status_is) is = cc

  no_task_of : IsOne r err s → command r.words ≡ None → (s ≡ status.Words) ⊎ Fails err s
  no_task_of (reported report ends) none = let some = ends.2.task in cc
  no_task_of (said_whole Words lined ends status_is line) none = inl status_is
  no_task_of (said_whole (TooLarge part) lined ends status_is line) none = let some = ends.4.task in cc
  no_task_of (said_whole (ReadFault part) lined ends status_is line) none = let some = ends.4.task in cc
  no_task_of (said_whole (Unread refusal) lined ends status_is line) none = let some = ends.4.task in cc
  no_task_of (said_whole (Judging refusal) lined ends status_is line) none = let some = ends.5.task in cc
  no_task_of (said_whole WriteFault lined ends status_is line) none = elim lined [ ]
  no_task_of (said_whole NoMemory lined ends status_is line) none = elim lined [ ]
  no_task_of (cut stop ends fails) none = inr fails
  no_task_of (unwritten ends status_is) none = let some = ends.2.task in cc
  no_task_of (spent status_is) none = inr (inr status_is)

  refused_of : IsOne r err s → s ≡ status.Refused → (stop : Stop) × IsRefusal stop × Ends r (Err stop) × Adds err.held err.held' (line_of stop)
  refused_of (reported report ends) is = absurd (no_report_of_refused err s report is)
  refused_of (said_whole stop lined ends status_is line) is = (stop, sym status_is ∙ is, ends, line)
  refused_of (cut stop ends fails) is = absurd (no_failure_of_refused err s fails is)
  refused_of (unwritten ends status_is) is = cc
  refused_of (spent status_is) is = cc

  -- where a visit is such that the run can't be whole, it is refused, or fails
  not_whole : (t : Task) → command r.words ≡ Some t → ((t' : Task) (said : List Said) → IsWhole r t' said → ⊥) → IsOne r err s → IsRefusedOrFails err s
  not_whole t task never (reported report ends) = absurd (never ends.0 ends.1 ends.2)
  not_whole t task never (said_whole Words lined ends status_is line) = let none = ends.0 in cc
  not_whole t task never (said_whole (TooLarge p) lined ends status_is line) = inl status_is
  not_whole t task never (said_whole (ReadFault p) lined ends status_is line) = inr (inl status_is)
  not_whole t task never (said_whole (Unread refusal) lined ends status_is line) = inl status_is
  not_whole t task never (said_whole (Judging refusal) lined ends status_is line) = inl status_is
  not_whole t task never (said_whole WriteFault lined ends status_is line) = elim lined [ ]
  not_whole t task never (said_whole NoMemory lined ends status_is line) = elim lined [ ]
  not_whole t task never (cut stop ends fails) = inr (inr fails)
  not_whole t task never (unwritten ends status_is) = absurd (never ends.0 ends.1 ends.2)
  not_whole t task never (spent status_is) = inr (inr (inr status_is))

  too_large_of : IsOne r err s → (t : Task) (v : Visit) (x : Texts) → HasVisit r t v x → ¬ FitFrom v.origin x → IsRefusedOrFails err s
  too_large_of one' t v x has over = not_whole t has.task (λ t' said whole. over (fits r t v x has t' said whole)) one'

  not_read_of : IsOne r err s → (t : Task) (v : Visit) (x : Texts) (stop : Stop) → HasVisit r t v x → read_inputs t.mode v.number x ≡ Err stop → IsRefusedOrFails err s
  not_read_of one' t v x stop has unread = not_whole t has.task (λ t' said whole. let read = reads r t v x has t' said whole in cc) one'

  not_judged_of : IsOne r err s → (t : Task) (v : Visit) (x : Texts) (i : Inputs) (f : JudgeRefusal) → HasVisit r t v x → read_inputs t.mode v.number x ≡ Ok i → IsRefusedBy t.mode i f → IsRefusedOrFails err s
  not_judged_of one' t v x i f has read refused = not_whole t has.task (λ t' said whole.
      let both : Ok (of_visit r t v x has t' said whole).0.inputs ≡ Ok i = sym (reads r t v x has t' said whole) ∙ read in
      let same : (of_visit r t v x has t' said whole).0.inputs ≡ i = cc in
      refused_and_judged t.mode i f refused (subst (λ (j : Inputs). IsJudgeable t.mode j) same (judgeable r t v x has t' said whole))) one'

  read_fault_of : IsOne r err s → s ≡ status.ReadFault → (t : Task) × (part : Part) × (command r.words ≡ Some t) × FailedAt r t part × Adds err.held err.held' (line_of (ReadFault part))
  read_fault_of (reported report ends) is = absurd (no_report_of_read_fault err s report is)
  read_fault_of (said_whole Words lined ends status_is line) is = cc
  read_fault_of (said_whole (TooLarge part) lined ends status_is line) is = cc
  read_fault_of (said_whole (ReadFault part) lined ends status_is line) is = (ends.0, part, ends.4.task, failed_at r ends.0 ends.1 ends.2 ends.3 part ends.4 ends.5 ends.6, line)
  read_fault_of (said_whole (Unread refusal) lined ends status_is line) is = cc
  read_fault_of (said_whole (Judging refusal) lined ends status_is line) is = cc
  read_fault_of (said_whole WriteFault lined ends status_is line) is = elim lined [ ]
  read_fault_of (said_whole NoMemory lined ends status_is line) is = elim lined [ ]
  read_fault_of (cut stop ends fails) is = absurd (no_failure_of_read_fault err s fails is)
  read_fault_of (unwritten ends status_is) is = cc
  read_fault_of (spent status_is) is = cc

  failed_load_of : (t : Task) (part : Part) → IsOne r err s → FailedAt r t part → (s ≡ status.ReadFault) ⊎ Fails err s
  failed_load_of t part (reported report ends) at = absurd (not_failed_at r t part (all_loads (visits ends.0.source)) ends.2.loads (all_succeed (visits ends.0.source)) at)
  failed_load_of t part (said_whole Words lined ends status_is line) at = absurd (not_failed_at r t part [] (ends.1 ∙ sym (append-nil r.loads)) refl at)
  failed_load_of t part (said_whole (TooLarge p) lined ends status_is line) at =
      absurd (not_failed_at r t part (up_to ends.1 ends.5.before (succeeded ends.3.name)) (ends.5.loads ∙ grouped r.loads ends.1 ends.5.before (succeeded ends.3.name)) (one_more ends.1 ends.5.before (succeeded ends.3.name)) at)
  failed_load_of t part (said_whole (ReadFault p) lined ends status_is line) at = inl status_is
  failed_load_of t part (said_whole (Unread refusal) lined ends status_is line) at = absurd (not_failed_at r t part (all_loads (ends.1 ++ ends.2 ∷ [])) ends.5.loads (all_succeed (ends.1 ++ ends.2 ∷ [])) at)
  failed_load_of t part (said_whole (Judging refusal) lined ends status_is line) at = absurd (not_failed_at r t part (all_loads (ends.1 ++ ends.2 ∷ [])) ends.6.loads (all_succeed (ends.1 ++ ends.2 ∷ [])) at)
  failed_load_of t part (said_whole WriteFault lined ends status_is line) at = elim lined [ ]
  failed_load_of t part (said_whole NoMemory lined ends status_is line) at = elim lined [ ]
  failed_load_of t part (cut stop ends fails) at = inr fails
  failed_load_of t part (unwritten ends status_is) at = absurd (not_failed_at r t part (all_loads (visits ends.0.source)) ends.2.loads (all_succeed (visits ends.0.source)) at)
  failed_load_of t part (spent status_is) at = inr (inr status_is)

  write_fault_of : IsOne r err s → s ≡ status.WriteFault → Rose r.out.faults r.out.faults' ⊎ Rose err.faults err.faults'
  write_fault_of (reported report ends) is = absurd (no_report_of_write_fault err s report is)
  write_fault_of (said_whole Words lined ends status_is line) is = cc
  write_fault_of (said_whole (TooLarge part) lined ends status_is line) is = cc
  write_fault_of (said_whole (ReadFault part) lined ends status_is line) is = cc
  write_fault_of (said_whole (Unread refusal) lined ends status_is line) is = cc
  write_fault_of (said_whole (Judging refusal) lined ends status_is line) is = cc
  write_fault_of (said_whole WriteFault lined ends status_is line) is = elim lined [ ]
  write_fault_of (said_whole NoMemory lined ends status_is line) is = elim lined [ ]
  write_fault_of (cut stop ends (inl fault)) is = inr fault.1
  write_fault_of (cut stop ends (inr short)) is = cc
  write_fault_of (unwritten ends status_is) is = inl ends.4
  write_fault_of (spent status_is) is = cc

  -- a status past a budget is that of a report
  budget_ends : IsOne r err s → s ≡ status.Budget → Ends r (Ok s)
  budget_ends (reported report ends) is = ends
  budget_ends (said_whole Words lined ends status_is line) is = cc
  budget_ends (said_whole (TooLarge part) lined ends status_is line) is = cc
  budget_ends (said_whole (ReadFault part) lined ends status_is line) is = cc
  budget_ends (said_whole (Unread refusal) lined ends status_is line) is = cc
  budget_ends (said_whole (Judging refusal) lined ends status_is line) is = cc
  budget_ends (said_whole WriteFault lined ends status_is line) is = elim lined [ ]
  budget_ends (said_whole NoMemory lined ends status_is line) is = elim lined [ ]
  budget_ends (cut stop ends (inl fault)) is = let a = fault.0 in cc
  budget_ends (cut stop ends (inr short)) is = cc
  budget_ends (unwritten ends status_is) is = cc
  budget_ends (spent status_is) is = cc

  budget_of : IsOne r err s → s ≡ status.Budget → (t : Task) × (said : List Said) × IsWhole r t said × (HasMaybe t said ⊎ ((x : Said) × Contains said x × IsOverBudget t.mode t.limits x.inputs))
  budget_of one' is = let ends = budget_ends one' is in (ends.0, ends.1, ends.2, left_open ends.0 ends.1 (answers_on r ends.0 ends.1 ends.2) (sym ends.4 ∙ is))

  completes_of : (t : Task) → command r.words ≡ Some t → AreWell r.told t → NothingFails r t err → IsOne r err s → Reports s ⊎ (s ≡ status.NoMemory)
  completes_of t task well none (reported report ends) = inl report
  completes_of t task well none (said_whole Words lined ends status_is line) = let no = ends.0 in cc
  completes_of t task well none (said_whole (TooLarge p) lined ends status_is line) = absurd (not_too_large r t task well ends.0 ends.1 ends.2 ends.4 ends.3 (succeeded ends.3.name) ends.5 ends.7)
  completes_of t task well none (said_whole (ReadFault p) lined ends status_is line) =
      absurd (none.loads p (subst (λ (u : Task). FailedAt r u p) (one_task r t ends.0 task ends.4.task) (failed_at r ends.0 ends.1 ends.2 ends.3 p ends.4 ends.5 ends.6)))
  completes_of t task well none (said_whole (Unread refusal) lined ends status_is line) = absurd (not_unread r t task well ends.0 ends.1 ends.2 ends.4 ends.3 (Unread refusal) ends.5.texts ends.6)
  completes_of t task well none (said_whole (Judging f) lined ends status_is line) = absurd (not_refused r t task well ends.0 ends.1 ends.2 ends.5 ends.3 ends.4 f ends.6.texts ends.7 ends.8)
  completes_of t task well none (said_whole WriteFault lined ends status_is line) = elim lined [ ]
  completes_of t task well none (said_whole NoMemory lined ends status_is line) = elim lined [ ]
  completes_of t task well none (cut stop ends (inl fault)) = absurd (none.errors fault.1)
  completes_of t task well none (cut stop ends (inr short)) = inr short
  completes_of t task well none (unwritten ends status_is) = absurd (none.out ends.4)
  completes_of t task well none (spent status_is) = inr status_is

  -- within all budgets what is left open is a line that may be used
  in_doubt : (t : Task) → command r.words ≡ Some t → (well : AreWell r.told t) → ((v : Visit) (there : Contains (visits t.source) v) → ¬ IsOverBudget t.mode t.limits (well v there).inputs)
      → (t' : Task) (said : List Said) (whole : IsWhole r t' said) → Adds r.out.held r.out.held' (text_of t' said) → status_of t' said ≡ status.Budget → IsInDoubt r t'
  in_doubt t task well enough t' said whole adds is =
      let all = answers_on r t' said whole in
      let never : OverOn t' said → ⊥ = λ over. within_all r t task well enough t' said whole over.0 over.1 over.2 in
      let doubt : HasMaybe t' said = elim (left_open t' said all is) [ inl maybe ↦ maybe | inr over ↦ absurd (never over) ] in record {
        said = said;
        whole = whole;
        written = adds;
        maybe = doubt;
        decided = all_decided t' said all never;
        sharp = doubt_sharp t' said all doubt;
      }

  decided : (t : Task) → command r.words ≡ Some t → (well : AreWell r.told t) → ((v : Visit) (there : Contains (visits t.source) v) → ¬ IsOverBudget t.mode t.limits (well v there).inputs)
      → IsOne r err s → Reports s ⊎ (s ≡ status.NoMemory) → (s ≡ status.Complete) ⊎ (s ≡ status.Unused) ⊎ ((s ≡ status.Budget) × IsInDoubt r t) ⊎ (s ≡ status.NoMemory)
  decided t task well enough one' (inl (inl complete)) = inl complete
  decided t task well enough one' (inl (inr (inl some))) = inr (inl some)
  decided t task well enough one' (inl (inr (inr budget))) =
      let ends = budget_ends one' budget in
      let doubt = in_doubt t task well enough ends.0 ends.1 ends.2 ends.3 (sym ends.4 ∙ budget) in
      inr (inr (inl (budget, subst (λ (u : Task). IsInDoubt r u) (one_task r t ends.0 task ends.2.task) doubt)))
  decided t task well enough one' (inr memory) = inr (inr (inr memory))

  -- all of them
  pub causes_of : IsEnded r err s → Causes r err s
  causes_of ended =
      let one' = one_end r err s ended.0 ended.1 ended.2 in
      record {
        words = words_of one';
        no_task = no_task_of one';
        refused = refused_of one';
        too_large = too_large_of one';
        not_read = λ t v x stop has fits unread. not_read_of one' t v x stop has unread;
        not_judged = λ t v x i f has fits read refused. not_judged_of one' t v x i f has read refused;
        read_fault = read_fault_of one';
        failed_load = λ t part task at. failed_load_of t part one' at;
        write_fault = write_fault_of one';
        budget = budget_of one';
        completes = λ t task well none. completes_of t task well none one';
        decides = λ t task well enough none. decided t task well enough one' (completes_of t task well none one');
      }

-- ---- no reason is said beside a report

no_memory_reported : (s : Status) → Reports s → s ≡ status.NoMemory → ⊥
no_memory_reported s (inl a) b = cc
no_memory_reported s (inr (inl a)) b = cc
no_memory_reported s (inr (inr a)) b = cc

pub no_reason : (r : Run) (err : Put) (s : Status) (wants_memory : Type 0) → Ends r (Ok s) → SaysWhy wants_memory err s
no_reason r err s wants_memory ends =
    let reports = status_reports r err s _ _ ends.4 in
    record { write_fault = λ is. absurd (no_report_of_write_fault err s reports is); no_memory = λ is. absurd (no_memory_reported s reports is) }

-- ---- a report is whole and right

module _ (r : Run) (err : Put) (s : Status) where
  fails_no_report : Fails err s → Reports s → ⊥
  fails_no_report (inl a) reports = no_report_of_write_fault err s reports a.0
  fails_no_report (inr a) reports = no_memory_reported s reports a

  headline_by : IsOne r err s → Headline r s
  headline_by (reported was ends) reports = ends
  headline_by (said_whole Words none ends status_is line) reports = absurd (no_report_of_words err s reports status_is)
  headline_by (said_whole (TooLarge p) none ends status_is line) reports = absurd (no_report_of_refused err s reports status_is)
  headline_by (said_whole (ReadFault p) none ends status_is line) reports = absurd (no_report_of_read_fault err s reports status_is)
  headline_by (said_whole (Unread refusal) none ends status_is line) reports = absurd (no_report_of_refused err s reports status_is)
  headline_by (said_whole (Judging refusal) none ends status_is line) reports = absurd (no_report_of_refused err s reports status_is)
  headline_by (said_whole WriteFault none ends status_is line) reports = elim none [ ]
  headline_by (said_whole NoMemory none ends status_is line) reports = elim none [ ]
  headline_by (cut stop ends fails) reports = absurd (fails_no_report fails reports)
  headline_by (unwritten ends status_is) reports = absurd (no_report_of_write_fault err s reports status_is)
  headline_by (spent status_is) reports = absurd (no_memory_reported s reports status_is)

  pub headline_of : IsEnded r err s → Headline r s
  headline_of ended = headline_by (one_end r err s ended.0 ended.1 ended.2)
