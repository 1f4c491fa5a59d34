use Rattle.std.proofs.Common.{ℕ, List, Contains, IsTrue, inl, inr, sym, subst}
use Rattle.std.proofs.lemmas.List.Elements.{Contains-append_right}
use Rattle.rule_index.proofs.IndexLemmas.{first_rest}
use Rattle.class_adding.specs.declared.looking.Look.{Look}
use Rattle.class_adding.specs.Work.{IsNear}
use Rattle.class_adding.proofs.WrittenLemmas.{left_first, left_next, done_next, done_all}
use Rattle.class_adding.proofs.DueLemmas.{near_more, from_none}
use Rattle.class_adding.proofs.due.gathered.Goals as goal

pub looks-init : goal.looks-init
looks-init c = record {
  left = λ m there. there;
  within = λ i there. c.requires.woken i (from_none c.new-due.result.items c.extend_from_slice.new.self.items c.args.woken.now i c.new-due.ensures.items c.in_ok-extend_from_slice.ensures.items there);
  near = λ m there. inl there;
  woken = λ i there. subst (λ (z : List ℕ). Contains z i) (sym c.in_ok-extend_from_slice.ensures.items) (Contains-append_right c.new-due.result.items c.args.woken.now i there);
}

pub add_near-requires : goal.add_near-requires
add_near-requires c = record { number = c.requires.numbers c.in-Some.look.now (left_first c.args.looks.now c.looks.rest.now c.in-Some.look.now c.in-Some.others.now (first_rest c.looks.rest.now c.in-Some.look.now c.in-Some.others.now c.in-Some.ensures.cases) c.looks.invariant.left) }

pub looks-preserved : goal.looks-preserved
looks-preserved c =
    let split = first_rest c.looks.rest.now c.in-Some.look.now c.in-Some.others.now c.in-Some.ensures.cases in
    let kept = c.in_ok-add_near.ensures.kept in
    record {
      left = left_next c.args.looks.now c.looks.rest.now c.in-Some.look.now c.in-Some.others.now split c.looks.invariant.left;
      within = λ i there. elim (c.in_ok-add_near.ensures.within i there) [ inl before ↦ c.looks.invariant.within i before | inr less ↦ less ];
      near = done_next (λ (m : Look). IsTrue m.grew → IsNear c.args.labels.now.nodes m c.looks.due.items) (λ (m : Look). IsTrue m.grew → IsNear c.args.labels.now.nodes m c.add_near.new.due.items) c.args.looks.now c.looks.rest.now c.in-Some.look.now c.in-Some.others.now split c.looks.invariant.near
          (λ m h grew. near_more c.args.labels.now.nodes m c.looks.due.items c.add_near.new.due.items kept (h grew)) c.in_ok-add_near.ensures.near;
      woken = λ i there. kept i (c.looks.invariant.woken i there);
    }

pub returns-clause-near : goal.returns-clause-near
returns-clause-near c = done_all (λ (m : Look). IsTrue m.grew → IsNear c.args.labels.now.nodes m c.looks.due.items) c.args.looks.now c.looks.rest.now c.in_default.ensures.cases c.looks.invariant.near
