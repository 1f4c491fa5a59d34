-- What the answers come to that a mode asks for, and why there are none.
use Rattle.std.proofs.Common.{◌≡◌, ℕ, ◌<◌, List, [], ◌∷◌, length, map, get_or, Option, All, Ok, Err, sym, ap, subst, ◌∙◌, inl, inr}
use Rattle.std.proofs.lemmas.List.{length-map}
use Rattle.jq_stmts.specs.Sharp.{wides}
use Rattle.jq_stmts.specs.Statements.{Statement}
use Rattle.jq_exact.specs.Settling.{AreSettled, IsUnfolded}
use Rattle.guard_sem.specs.Guards.{Guard}
use Rattle.simple_core.specs.declared.system.System.{System}
use Rattle.rule_translate.specs.Translation.{guard_of}
use Rattle.usage_report.specs.Answers.{Answer, spent}
use Rattle.usage_report.specs.Views.{answer_of}
use Rattle.usage_report.specs.declared.answers.Answer as code
use Rattle.limits.specs.Budgets.{IsInRange}
use Rattle.limits.specs.declared.budgets.Limits.{Limits}
use Rattle.command_words.specs.declared.words.Mode.{Mode}
use Rattle.command_words.specs.declared.words.Mode.TheVariants.{Report, Prune, Dead, Runs, Site, SitePrune}
use Rattle.dead_script.specs.Asked.{by_number, InOrder, AreAsked}
use Rattle.dead_script.specs.Probes.{all_probes}
use Rattle.guard_simplify.specs.declared.simplified.SimplifyFault.{SimplifyFault}
use Rattle.guard_simplify.specs.declared.simplified.SimplifyFault.TheVariants.{TooManyAtoms, TooManyVisible, Memory}
use Rattle.judge.specs.Answers.{AreAnswersFor}
use Rattle.judge.specs.Goals.{Goal, selecting}
use Rattle.judge.specs.Outcomes as judge
use Rattle.run_trace.specs.Traces.{AreTracked}
use Rattle.run_trace.proofs.AnswerLemmas.{traces_placed}
use Rattle.usage_report.specs.Reportable.{AreReportable, AreTraceable}
use Rattle.dead_script.specs.Verdicts.{IsProbed}
use Rattle.dead_script.proofs.AskedLemmas.{in_order_known}
use Rattle.run_ends.specs.declared.stops.Stop.{Stop}
use Rattle.run_ends.specs.declared.stops.Stop.TheVariants as stop
use Rattle.treeped_app.specs.Answers.{AreRight, AreRightFor, IsSpent}
use Rattle.treeped_app.specs.Inputs.{AreInputs, IsUnanswered, IsRead, IsSaying, IsWritable, judging_stop}
use Rattle.treeped_app.specs.Modes.{Texts, Inputs, Said, places_of, goals_in, extra_in, guards_in, AreJudgedOf, AreAnswersOf}
use Rattle.treeped_app.specs.Runs.{IsSheetOf, read_inputs}
use Rattle.treeped_app.specs.Views.{inputs_of, said_of}
use Rattle.treeped_app.specs.declared.saying.Said as held
use Rattle.treeped_app.proofs.AskedLemmas.{each_of, system_of_asked, within_as_asked, fault_as_asked, given_as_asked, told_in_order, judged_as_asked}
use Rattle.treeped_app.proofs.WritingLemmas.{all_unmapped}
use Rattle.treeped_app.proofs.DeadLemmas.{of_guards, guards_over}
use Rattle.treeped_app.proofs.SheetLemmas.{sheet_read}
use Rattle.treeped_app.proofs.ExactLemmas.{all_settled, all_unfolded, all_tracked, all_reportable}
use Rattle.treeped_app.proofs.RightLemmas.{answers_right, goals_right, all_spent, all_probed, as_many}

-- ---- right answers

module _ (m : Mode) (limits : Limits) (i : Inputs) where
  abbrev guards : List Guard
  guards = guards_in m i

  abbrev Exactly : List Answer → List Answer → Type 0
  Exactly items others = judge.AreJudged i.stmts i.sheet.items (extra_in m i) (length i.names) i.tree limits items others

  items_right : (items others : List Answer) → Exactly items others → AreRight i.tree i.stmts guards (length i.names) limits i.sheet.items items
  items_right items others (inl (are, for, few)) = answers_right i.tree i.stmts guards (length i.names) limits i.sheet.items items are
  items_right items others (inr (by, by', more)) =
      subst (λ (xs : List Answer). AreRight i.tree i.stmts guards (length i.names) limits i.sheet.items xs) (sym by) (all_spent i.tree i.stmts guards (length i.names) limits more i.sheet.items)

probes_spent : (limits : Limits) (i : Inputs) (gs : List Guard) (ps : List Statement) → IsSpent i.tree i.stmts gs (length i.names) limits
    → AreRightFor i.tree i.stmts gs (length i.names) limits (map selecting ps) (map (λ (g : Guard). spent) (map guard_of ps))
probes_spent limits i gs [] more = tt
probes_spent limits i gs (p ∷ ps) more = (more, probes_spent limits i gs ps more)

none_asked : (limits : Limits) (i : Inputs) (gs : List Guard) (others : List Answer) → AreAnswersFor i.stmts gs (length i.names) i.tree limits [] others → AreRightFor i.tree i.stmts gs (length i.names) limits [] others
none_asked limits i gs [] are = tt
none_asked limits i gs (a ∷ others) are = absurd are

none_spent : (limits : Limits) (i : Inputs) (gs : List Guard) (others : List Answer) → others ≡ [] → AreRightFor i.tree i.stmts gs (length i.names) limits [] others
none_spent limits i gs others same = subst (λ (xs : List Answer). AreRightFor i.tree i.stmts gs (length i.names) limits [] xs) (sym same) tt

others_right : (m : Mode) (limits : Limits) (i : Inputs) (items others : List Answer) → Exactly m limits i items others → AreRightFor i.tree i.stmts (guards_in m i) (length i.names) limits (goals_in m i) others
others_right Dead limits i items others (inl (are, for, few)) =
    goals_right i.tree i.stmts (guards_in Dead i) (length i.names) limits (map selecting (all_probes i.stmts)) others
    (of_guards i.stmts (guards_in Dead i) (length i.names) i.tree limits (all_probes i.stmts) others for)
others_right Dead limits i items others (inr (by, by', more)) =
    subst (λ (xs : List Answer). AreRightFor i.tree i.stmts (guards_in Dead i) (length i.names) limits (map selecting (all_probes i.stmts)) xs) (sym by')
    (probes_spent limits i (guards_in Dead i) (all_probes i.stmts) more)
others_right Report limits i items others (inl (are, for, few)) = none_asked limits i (guards_in Report i) others for
others_right Report limits i items others (inr (by, by', more)) = none_spent limits i (guards_in Report i) others by'
others_right Runs limits i items others (inl (are, for, few)) = none_asked limits i (guards_in Runs i) others for
others_right Runs limits i items others (inr (by, by', more)) = none_spent limits i (guards_in Runs i) others by'
others_right Prune limits i items others (inl (are, for, few)) = none_asked limits i (guards_in Prune i) others for
others_right Prune limits i items others (inr (by, by', more)) = none_spent limits i (guards_in Prune i) others by'
others_right Site limits i items others (inl (are, for, few)) = none_asked limits i (guards_in Site i) others for
others_right Site limits i items others (inr (by, by', more)) = none_spent limits i (guards_in Site i) others by'
others_right SitePrune limits i items others (inl (are, for, few)) = none_asked limits i (guards_in SitePrune i) others for
others_right SitePrune limits i items others (inr (by, by', more)) = none_spent limits i (guards_in SitePrune i) others by'

-- what is judged of the guards that are asked is judged of all goals
pub answers_are : (m : Mode) (limits : Limits) (i : Inputs) (ss : List Statement) (gs : List Guard) (numbers : List ℕ) (items told : List Answer) → ss ≡ i.stmts → AreAsked (extra_in m i) gs numbers
    → judge.IsWithin ss i.sheet.items gs (length i.names) → judge.AreJudged ss i.sheet.items gs (length i.names) i.tree limits items told → AreJudgedOf m limits i items (by_number spent told numbers)
answers_are m limits i ss gs numbers items told same asked within judged =
    let others = by_number spent told numbers in
    let exactly : Exactly m limits i items others =
    subst (λ (z : List Statement). judge.AreJudged z i.sheet.items (extra_in m i) (length i.names) i.tree limits items others) same
    (judged_as_asked (extra_in m i) gs numbers asked ss i.sheet.items (length i.names) i.tree limits items told judged) in
    record {
      right = items_right m limits i items others exactly;
      others_right = others_right m limits i items others exactly;
      within =
          subst (λ (z : List Statement). judge.IsWithin z i.sheet.items (extra_in m i) (length i.names)) same
          (within_as_asked (extra_in m i) gs numbers asked ss i.sheet.items (length i.names) within);
      exactly = exactly;
    }

-- and each of the answers that were made has a number
pub answers_in_order : (m : Mode) (limits : Limits) (i : Inputs) (ss : List Statement) (gs : List Guard) (numbers : List ℕ) (items : List Answer) (made : List code.Answer) → AreAsked (extra_in m i) gs numbers
    → judge.AreJudged ss i.sheet.items gs (length i.names) i.tree limits items (map answer_of made) → InOrder 0 numbers (length made)
answers_in_order m limits i ss gs numbers items made asked judged =
    subst (InOrder 0 numbers) (length-map made answer_of) (told_in_order (extra_in m i) gs numbers asked ss i.sheet.items (length i.names) i.tree limits items (map answer_of made) judged)

-- by the system of these inputs
pub system_as : (m : Mode) (i : Inputs) (ss : List Statement) (gs : List Guard) (numbers : List ℕ) (system : System) → ss ≡ i.stmts → AreAsked (extra_in m i) gs numbers → system ≡ judge.system_in ss i.sheet.items gs (length i.names)
    → system ≡ judge.system_in i.stmts i.sheet.items (extra_in m i) (length i.names)
system_as m i ss gs numbers system same asked is =
    is ∙ system_of_asked (extra_in m i) gs numbers asked ss i.sheet.items (length i.names) ∙ ap (λ (z : List Statement). judge.system_in z i.sheet.items (extra_in m i) (length i.names)) same

-- and settled
pub answers_settled : (m : Mode) (limits : Limits) (i : Inputs) (old new others : List Answer) → wides i.exact ≡ i.stmts → AreJudgedOf m limits i old others
    → AreSettled i.tree i.exact (judge.system_in i.stmts i.sheet.items (extra_in m i) (length i.names)) old new → AreAnswersOf m limits i new others
answers_settled m limits i old new others wide are settled = record {
  judged = old;
  are = are;
  settled = settled;
  right = all_settled i.tree i.exact i.stmts (guards_in m i) (length i.names) limits wide i.sheet.items old new are.right settled;
}

-- of inputs that are parted again
pub said_right : (m : Mode) (limits : Limits) (i j : Inputs) (old new others : List Answer) (system : System) → j ≡ i → wides i.exact ≡ i.stmts → AreJudgedOf m limits i old others
    → system ≡ judge.system_in i.stmts i.sheet.items (extra_in m i) (length i.names) → AreSettled i.tree i.exact system old new → AreAnswersOf m limits j new others
said_right m limits i j old new others system same wide are is settled =
    subst (λ (z : Inputs). AreAnswersOf m limits z new others) (sym same)
    (answers_settled m limits i old new others wide are (subst (λ (z : System). AreSettled i.tree i.exact z old new) is settled))

pub unfolded_of : (m : Mode) (limits : Limits) (i : Inputs) (items : List code.Answer) (others : List Answer) → IsInRange limits → AreJudgedOf m limits i (map answer_of items) others
    → All (λ (a : code.Answer). IsUnfolded i.tree (judge.system_in i.stmts i.sheet.items (extra_in m i) (length i.names)) (answer_of a)) items
unfolded_of m limits i items others range are = all_unfolded i.tree i.exact i.stmts (guards_in m i) (length i.names) limits range.list i.sheet.items items are.right

pub tracked_of : (m : Mode) (limits : Limits) (i : Inputs) (items others : List Answer) → AreAnswersOf m limits i items others → AreTracked i.tree i.stmts i.sheet.items items
tracked_of m limits i items others are = all_tracked i.tree i.exact i.stmts (guards_in m i) (length i.names) limits i.sheet.items items are.right

-- ---- what is said can be written

pub reportable_of : (m : Mode) (s : Said) → IsWritable m s → AreReportable (places_of s.inputs) s.inputs.sheet.items s.items
reportable_of m s (limits, page, is) = all_reportable s.inputs.tree s.inputs.exact s.inputs.stmts (guards_in m s.inputs) (length s.inputs.names) limits s.inputs.sheet.items s.items is.answers.right

-- statements' lines can be written by these numbers of these answers
pub record ArePrintable (i : Inputs) (numbers : List ℕ) (answers : List code.Answer) : Type 0 where
  pub one_each : length numbers ≡ length (all_probes i.stmts)
  pub known : All (λ k. k < length answers) numbers
  pub probed : All (λ (a : code.Answer). IsProbed (places_of i) (answer_of a)) answers

probed_of : (s : Said) → IsWritable Dead s → (length s.others ≡ length (all_probes s.inputs.stmts)) × All (IsProbed (places_of s.inputs)) s.others
probed_of s (limits, page, is) =
    let i = s.inputs in
    let goals = map selecting (all_probes i.stmts) in (
      as_many i.tree i.stmts (guards_in Dead i) (length i.names) limits goals s.others is.answers.are.others_right ∙ length-map {B = Goal} (all_probes i.stmts) selecting,
      all_probed i.tree i.stmts (guards_in Dead i) (length i.names) limits goals s.others is.answers.are.others_right,
    )

-- by the numbers of the answers that were made
pub probed_by : (x : Texts) (u : held.Said) → IsWritable Dead (said_of x u) → InOrder 0 u.numbers.items (length u.by_guard.items) → ArePrintable (inputs_of u.inputs) u.numbers.items u.by_guard.items
probed_by x u is order =
    let s = said_of x u in
    let numbers = u.numbers.items in
    let told = map answer_of u.by_guard.items in
    let all = probed_of s is in
    record {
      one_each = sym (length-map numbers (λ k. get_or told k spent)) ∙ all.0;
      known = (in_order_known 0 (length u.by_guard.items) numbers order).1;
      probed =
          all_unmapped (IsProbed (places_of s.inputs)) answer_of u.by_guard.items
          (each_of (IsProbed (places_of s.inputs)) spent told numbers (subst (InOrder 0 numbers) (sym (length-map u.by_guard.items answer_of)) order) all.1);
    }

pub traceable_of : (s : Said) → IsWritable Runs s → AreTraceable (places_of s.inputs) s.inputs.sheet.items s.traces
traceable_of s (limits, page, is) =
    traces_placed s.inputs.tree s.inputs.stmts s.inputs.sheet.items s.items s.traces (tracked_of Runs limits s.inputs s.items s.others is.answers) is.traces

pub sheet_of_said : (m : Mode) (s : Said) → IsWritable m s → IsSheetOf s.texts.sheet s.inputs.sheet
sheet_of_said m s (limits, page, is) = sheet_read m page s.texts s.inputs is.read

-- ---- what may be judged

extra_over : (m : Mode) (i : Inputs) → AreInputs i → judge.AreGiven i.stmts i.sheet.items (extra_in m i) (length i.names) i.tree
extra_over Dead i given =
    record {
      statements = given.statements;
      selectors = given.selectors;
      guards = guards_over (length i.names) i.stmts given.statements;
      tree = given.tree;
      few_statements = given.few_statements;
      few_nodes = given.few_nodes;
    }
extra_over Report i given = given
extra_over Runs i given = given
extra_over Prune i given = given
extra_over Site i given = given
extra_over SitePrune i given = given

pub given_with : (m : Mode) (i : Inputs) (ss : List Statement) (gs : List Guard) (numbers : List ℕ) → AreInputs i → ss ≡ i.stmts → AreAsked (extra_in m i) gs numbers → judge.AreGiven ss i.sheet.items gs (length i.names) i.tree
given_with m i ss gs numbers given same asked =
    subst (λ (z : List Statement). judge.AreGiven z i.sheet.items gs (length i.names) i.tree) (sym same)
    (given_as_asked (extra_in m i) gs numbers asked i.stmts i.sheet.items (length i.names) i.tree (extra_over m i given))

-- ---- no answers

refused_by_fault : (m : Mode) (i : Inputs) (e : SimplifyFault) → judge.IsFault i.stmts i.sheet.items (extra_in m i) (length i.names) e → IsUnanswered m i (judging_stop e)
refused_by_fault m i TooManyAtoms is = is
refused_by_fault m i TooManyVisible is = is
refused_by_fault m i Memory is = tt

pub refused_by_system : (m : Mode) (i : Inputs) (ss : List Statement) (gs : List Guard) (numbers : List ℕ) (e : SimplifyFault) → ss ≡ i.stmts → AreAsked (extra_in m i) gs numbers → judge.IsFault ss i.sheet.items gs (length i.names) e
    → IsUnanswered m i (judging_stop e)
refused_by_system m i ss gs numbers e same asked is =
    refused_by_fault m i e
    (subst (λ (z : List Statement). judge.IsFault z i.sheet.items (extra_in m i) (length i.names) e) same (fault_as_asked (extra_in m i) gs numbers asked ss i.sheet.items (length i.names) e is))

module _ (m : Mode) (limits : Limits) (page : Option ℕ) (x : Texts) where
  pub not_read : (e : Stop) → IsRead (read_inputs m page x) (Err e) → IsSaying m limits page x (Err e)
  not_read stop.Words is = absurd is
  not_read (stop.TooLarge part) is = absurd is
  not_read (stop.ReadFault part) is = absurd is
  not_read (stop.Unread refusal) is = is
  not_read (stop.Judging f) is = absurd is
  not_read stop.WriteFault is = absurd is
  not_read stop.NoMemory is = tt

  pub not_answered : (i : Inputs) (e : Stop) → read_inputs m page x ≡ Ok i → IsUnanswered m i e → IsSaying m limits page x (Err e)
  not_answered i stop.Words read is = absurd is
  not_answered i (stop.TooLarge part) read is = absurd is
  not_answered i (stop.ReadFault part) read is = absurd is
  not_answered i (stop.Unread refusal) read is = absurd is
  not_answered i (stop.Judging f) read is = (i, read, is)
  not_answered i stop.WriteFault read is = absurd is
  not_answered i stop.NoMemory read is = tt
