use Rattle.std.proofs.Common.{[], ◌∙◌, Option, List, ℕ, get_or, unwrap_or, sym, ap, ◌≡◌, ◌<◌, length, All, Contains, IsFalse, refl, arith, subst}
use Rattle.std.proofs.lemmas.List.{get_or_read}
use Rattle.simple_core.specs.Pairs.{Asks}
use Rattle.rule_index.specs.Asking.{AreUnseen}
use Rattle.class_adding.specs.Filling.{wake_at}
use Rattle.closed_page.specs.Gains.{label_in}
use Rattle.closed_page.specs.Labelled.{node_of}
use Rattle.class_adding.specs.Fresh.{IsAsleep, IsResting}
use Rattle.class_adding.proofs.WentLemmas.{went_start, went_rows, went_here}
use Rattle.class_adding.proofs.FreshLemmas.{is_news, some_new, none_new, was_some}
use Rattle.class_adding.proofs.asker.Asker.look_at.Goals as goal

pub returns-in_err-given-clause-went : goal.returns-in_err-given-clause-went
returns-in_err-given-clause-went g c = went_start g.S.Summaries (Asks c.args.self.now.system.now (label_in c.args.filling.now.labels.labels (node_of c.args.filling.now.labels c.args.number))) c.args.self.now c.requires.ready

pub look_below-requires-clause-resting : goal.look_below-requires-clause-resting
look_below-requires-clause-resting g c =
    let fresh = c.args.filling.now.work.fresh.items in
    let number = c.args.number in
    let known = g.S.Summaries.known c.args.self.now.sums.now in
    let long : length fresh ≡ length c.args.filling.now.labels.nodes = c.requires.working.long in
    let less : number < length fresh = omega (arith, c.requires.within, long) in
    let here : c.set-here.result.now ≡ get_or fresh number [] = c.set-here.ensures ∙ rw c.as_slice-fresh.ensures.value at (get_or_read c.as_slice-fresh.result.now number c.index-fresh-number.result (omega (arith, less, ap (λ (z : List (List ℕ)). length z) c.as_slice-fresh.ensures.value)) c.index-fresh-number.is []) in
    let own : label_in c.args.filling.now.labels.labels (node_of c.args.filling.now.labels number) ≡ c.own-own.result.now = ap (λ o. unwrap_or o []) c.own-own.ensures in
    let wake : c.wake_in-wake.result ≡ wake_at c.args.filling.now.work.wakes.items number = c.wake_in-wake.ensures ∙ ap (λ (z : List (Option ℕ)). wake_at z number) c.deref.ensures.value in
    subst (λ (z : Option ℕ). IsResting c.args.self.now.system.now c.args.k known c.own-own.result.now c.set-here.result.now z) (sym wake)
    (subst (λ (z : List ℕ). IsResting c.args.self.now.system.now c.args.k known z c.set-here.result.now (wake_at c.args.filling.now.work.wakes.items number)) own
    (subst (λ (z : List ℕ). IsResting c.args.self.now.system.now c.args.k known (label_in c.args.filling.now.labels.labels (node_of c.args.filling.now.labels number)) z (wake_at c.args.filling.now.work.wakes.items number)) (sym here) c.requires.resting))

pub look_below-requires-clause-rises : goal.look_below-requires-clause-rises
look_below-requires-clause-rises g c = c.in_ok-given.ensures.rises (λ k within. absurd (omega arith))

pub returns-clause-look : goal.returns-clause-look
returns-clause-look g c =
    let labels = c.args.filling.now.labels in
    let own : label_in labels.labels (node_of labels c.args.number) ≡ c.own-own.result.now = ap (λ o. unwrap_or o []) c.own-own.ensures in
    let count : c.len-grew.result ≡ length c.in_ok-news.news = c.len-grew.ensures.count ∙ ap (λ (z : List ℕ). length z) c.set-set.ensures in
    record {
      here = refl;
      is_news = is_news c.args.self.now.system.now labels.labels c.args.k (node_of labels c.args.number) c.own-own.result.now c.in_ok-given.given c.look_below.new.next c.in_ok-news.news own c.in_ok-given.ensures c.in_ok-later.ensures.more c.in_ok-news.ensures;
      same = none_new c.len-grew.result c.in_ok-news.news count;
      above = subst (λ (z : List ℕ). IsFalse c.is_seen_above-seen_above.result → AreUnseen c.args.self.now.system.now.down z) c.set-set.ensures c.is_seen_above-seen_above.ensures;
      below = subst (λ (z : List ℕ). IsFalse c.is_seen_below-seen_below.result → AreUnseen c.args.self.now.system.now.up z) c.set-set.ensures c.is_seen_below-seen_below.ensures;
      other = λ grew. subst (λ (z : List ℕ). All (Contains z) c.in_ok-news.news → ⊥) (sym own) (some_new c.own-own.result.now c.look_below.new.next c.in_ok-news.news c.len-grew.result c.in_ok-news.ensures count (was_some c.len-grew.result grew));
      asleep = subst (λ (z : List ℕ). IsAsleep c.args.self.now.system.now c.args.k (g.S.Summaries.known c.look_below.new.self.sums.now) z c.in_ok-later.later) (sym own) c.in_ok-later.ensures.asleep;
    }

pub returns-in_err-news-clause-went : goal.returns-in_err-news-clause-went
returns-in_err-news-clause-went g c =
    went_rows g.S.Summaries (Asks c.args.self.now.system.now (label_in c.args.filling.now.labels.labels (node_of c.args.filling.now.labels c.args.number))) c.args.self.now c.look_below.new.self _
    (went_here g.S.Summaries c.args.self.now c.look_below.new.self (label_in c.args.filling.now.labels.labels (node_of c.args.filling.now.labels c.args.number)) c.own-own.result.now (ap (λ o. unwrap_or o []) c.own-own.ensures) c.look_below.ensures.went)
    refl refl refl c.look_below.ensures.went.ready.remembered

pub returns-clause-went : goal.returns-clause-went
returns-clause-went g c =
    went_rows g.S.Summaries (Asks c.args.self.now.system.now (label_in c.args.filling.now.labels.labels (node_of c.args.filling.now.labels c.args.number))) c.args.self.now c.look_below.new.self _
    (went_here g.S.Summaries c.args.self.now c.look_below.new.self (label_in c.args.filling.now.labels.labels (node_of c.args.filling.now.labels c.args.number)) c.own-own.result.now (ap (λ o. unwrap_or o []) c.own-own.ensures) c.look_below.ensures.went)
    refl refl refl c.look_below.ensures.went.ready.remembered
