use Rattle.std.proofs.Common.{ℕ, List, All, sym, subst, ◌∙◌, rules}
use Rattle.std.proofs.lemmas.List.Elements.{All-push}
use Rattle.simple_core.specs.Systems.{kind_label}
use Rattle.saturation.specs.declared.courses.Course.{Course}
use Rattle.saturation.specs.HistoryMap.{history_in}
use Rattle.saturation.specs.Courses.{AreCourses, AreRows, HasGate}
use Rattle.saturation.proofs.CourseLemmas.{one_row}
use Rattle.saturation.proofs.courses.rows_of.Goals as goal

pub loop-i-preserved : goal.loop-i-preserved
loop-i-preserved c =
    let s = c.args.system.now in
    let more = one_row (λ (j : ℕ) (row : List Course). AreCourses (kind_label s j) (history_in c.args.histories.now j) s.visible row)
    c.loop-i.rows.items c.push.new.self.items c.loop-i.i c.in_ok-row.row c.loop-i.invariant.count c.in_ok-push.ensures.items c.loop-i.invariant.each c.in_ok-row.ensures.courses in
    record {
      count = more.0;
      each = more.1;
      gates = subst (λ (rows : List (List Course)). All (All (HasGate c.args.d.now.branches)) rows) (sym c.in_ok-push.ensures.items)
          (All-push (All (HasGate c.args.d.now.branches)) c.loop-i.rows.items c.in_ok-row.row c.loop-i.invariant.gates c.in_ok-row.ensures.gates);
    }

pub returns-clause-rows : goal.returns-clause-rows
returns-clause-rows c = subst (λ (rows : List (List Course)). AreRows c.args.system.now (history_in c.args.histories.now) rows) (sym c.new.ensures)
    (record { count = c.loop-i.invariant.count ∙ search rules; each = c.loop-i.invariant.each })

pub returns-clause-gates : goal.returns-clause-gates
returns-clause-gates c = subst (λ (rows : List (List Course)). All (All (HasGate c.args.d.now.branches)) rows) (sym c.new.ensures) c.loop-i.invariant.gates

pub row_of-requires-clause-inside : goal.row_of-requires-clause-inside
row_of-requires-clause-inside c a = c.requires.inside c.loop-i.i a (rw c.items-i-end.ensures at c.loop-i-test.true)
