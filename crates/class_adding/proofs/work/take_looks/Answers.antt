use Rattle.std.proofs.Common.{ℕ, List, ◌<◌, length, Contains, inl, inr, refl, sym, arith, subst}
use Rattle.class_adding.proofs.WrittenLemmas.{kids_less}
use Rattle.class_adding.proofs.work.take_looks.Goals as goal

pub write_all_news-requires : goal.write_all_news-requires
write_all_news-requires c = λ l there. omega (arith, c.requires.numbers l there, c.requires.long)

pub write_all_wakes-requires : goal.write_all_wakes-requires
write_all_wakes-requires c = λ l there. omega (arith, c.requires.numbers l there, c.requires.times)

pub call_all-requires-clause-only : goal.call_all-requires-clause-only
call_all-requires-clause-only c = kids_less c.args.labels.now.nodes c.args.work.now.callers c.clear_all.new.callers c.clear_all.ensures c.requires.only

pub next_due-requires-clause-woken : goal.next_due-requires-clause-woken
next_due-requires-clause-woken c = λ i there.
    elim (c.in_ok-wait_all.ensures.right c.args.k i (subst (λ (z : List ℕ). Contains z i) c.of.ensures there)) [
      | inl before ↦ c.requires.awaited c.args.k i before
      | inr seen ↦ subst (λ n. n < length c.args.labels.now.nodes) seen.2 (c.requires.numbers seen.0 seen.1)
    ]

pub returns : goal.returns
returns c = record {
  fresh = c.in_ok-write_all_news.ensures;
  wakes = c.write_all_wakes.ensures;
  awaited = c.in_ok-wait_all.ensures;
  only = c.in_ok-call_all.ensures.only;
  heard = c.in_ok-call_all.ensures.heard;
  within = c.in_ok-due.ensures.within;
  near = c.in_ok-due.ensures.near;
  woken = λ i there. c.in_ok-due.ensures.woken i (subst (λ (z : List ℕ). Contains z i) (sym c.of.ensures) there);
  until = refl;
  later = refl;
  none = refl;
}
