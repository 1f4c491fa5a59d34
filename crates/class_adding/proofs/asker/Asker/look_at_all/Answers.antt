use Rattle.std.proofs.Common.{◌⊎◌, List, [], get_or, Contains, refl, sym, ◌∙◌, subst, arith}
use Rattle.std.proofs.lemmas.List.Elements.{Contains-get_or}
use Rattle.simple_core.specs.declared.system.System.{System}
use Rattle.rule_index.proofs.IndexLemmas.{first_rest}
use Rattle.closed_page.specs.Gains.{Gain, gains_at, label_in}
use Rattle.class_adding.specs.Filling.{AsksIn, IsGain, wake_at}
use Rattle.class_adding.specs.Fresh.{IsSettled, IsResting}
use Rattle.class_adding.specs.declared.looking.Look.{Look}
use Rattle.class_adding.specs.Looks.{IsLook, AreLooks}
use Rattle.class_adding.proofs.WentLemmas.{went_start, ok_spent}
use Rattle.class_adding.proofs.RoundLemmas.{looking_start, looking_first, looking_next, looking_all, resting_more, went_look}
use Rattle.class_adding.proofs.asker.Asker.look_at_all.Goals as goal

pub nodes-init : goal.nodes-init
nodes-init g c =
    let s = c.args.self.now.system.now in
    let u = c.args.filling.now.labels.labels in
    record {
      looking = rw (c.new-gains.ensures.items, c.new-looks.ensures.items, c.as_slice-rest.ensures.value) (looking_start s u c.args.k c.args.filling.now.labels.nodes (g.S.Summaries.known c.args.self.now.sums.now) c.args.filling.now.work.due.items c.requires.working.within);
      went = went_start g.S.Summaries (AsksIn s u) c.args.self.now c.requires.ready;
      spent = refl;
      numbers = rw c.new-gains.ensures.items (λ k d least. absurd (omega (arith, least)));
    }

pub look_once-requires-clause-may : goal.look_once-requires-clause-may
look_once-requires-clause-may g c =
    let s = c.args.self.now.system.now in
    let u = c.args.filling.now.labels.labels in
    let nodes = c.args.filling.now.labels.nodes in
    let number = c.in-Some.number.now in
    let split = first_rest c.nodes.rest.now number c.in-Some.others.now c.in-Some.ensures.cases in
    let less = looking_first s u c.args.k nodes (g.S.Summaries.known c.nodes.self.sums.now) (gains_at nodes c.nodes.gains.items) c.nodes.looks.items c.args.filling.now.work.due.items c.nodes.rest.now number c.in-Some.others.now split c.nodes.invariant.looking in
    let same = c.nodes.invariant.went.same_system in
    record {
      within = less;
      working = c.requires.working;
      alike = c.requires.alike;
      settled = subst (λ (z : System). IsSettled z u nodes c.args.filling.now.work.fresh.items number) (sym same) (c.requires.settled number less);
      resting = subst (λ (z : System). IsResting z c.args.k (g.S.Summaries.known c.nodes.self.sums.now) (label_in u (get_or nodes number [])) (get_or c.args.filling.now.work.fresh.items number []) (wake_at c.args.filling.now.work.wakes.items number)) (sym same)
          (resting_more s u c.args.k (g.S.Summaries.known c.args.self.now.sums.now) (g.S.Summaries.known c.nodes.self.sums.now) nodes c.args.filling.now.work.fresh.items c.args.filling.now.work.wakes.items number _ c.requires.resting less refl c.nodes.invariant.went.kept);
      ready = c.nodes.invariant.went.ready;
    }

pub look_once-requires-clause-looks : goal.look_once-requires-clause-looks
look_once-requires-clause-looks g c =
    let u = c.args.filling.now.labels.labels in
    let nodes = c.args.filling.now.labels.nodes in
    let known = g.S.Summaries.known c.nodes.self.sums.now in
    let gains = gains_at nodes c.nodes.gains.items in
    subst (λ (z : List Look). AreLooks c.nodes.self.system.now u c.args.k known gains nodes z) (sym c.deref.ensures.value)
    (subst (λ (z : System). AreLooks z u c.args.k known gains nodes c.nodes.looks.items) (sym c.nodes.invariant.went.same_system) c.nodes.invariant.looking.looks_are)

pub returns-in_err-look-clause-went : goal.returns-in_err-look-clause-went
returns-in_err-look-clause-went g c =
    let s = c.args.self.now.system.now in
    let u = c.args.filling.now.labels.labels in
    let nodes = c.args.filling.now.labels.nodes in
    let number = c.in-Some.number.now in
    let split = first_rest c.nodes.rest.now number c.in-Some.others.now c.in-Some.ensures.cases in
    let less = looking_first s u c.args.k nodes (g.S.Summaries.known c.nodes.self.sums.now) (gains_at nodes c.nodes.gains.items) c.nodes.looks.items c.args.filling.now.work.due.items c.nodes.rest.now number c.in-Some.others.now split c.nodes.invariant.looking in
    let node = c.requires.nodes (get_or nodes number []) (Contains-get_or nodes number [] less) in
    went_look g.S.Summaries u c.args.self.now c.nodes.self c.look_once.new.self (get_or nodes number []) node c.nodes.invariant.went c.look_once.ensures.went

pub returns-in_err-push-clause-went : goal.returns-in_err-push-clause-went
returns-in_err-push-clause-went g c =
    let s = c.args.self.now.system.now in
    let u = c.args.filling.now.labels.labels in
    let nodes = c.args.filling.now.labels.nodes in
    let number = c.in-Some.number.now in
    let split = first_rest c.nodes.rest.now number c.in-Some.others.now c.in-Some.ensures.cases in
    let less = looking_first s u c.args.k nodes (g.S.Summaries.known c.nodes.self.sums.now) (gains_at nodes c.nodes.gains.items) c.nodes.looks.items c.args.filling.now.work.due.items c.nodes.rest.now number c.in-Some.others.now split c.nodes.invariant.looking in
    let node = c.requires.nodes (get_or nodes number []) (Contains-get_or nodes number [] less) in
    went_look g.S.Summaries u c.args.self.now c.nodes.self c.look_once.new.self (get_or nodes number []) node c.nodes.invariant.went c.look_once.ensures.went

pub nodes-preserved : goal.nodes-preserved
nodes-preserved g c =
    let s = c.args.self.now.system.now in
    let u = c.args.filling.now.labels.labels in
    let nodes = c.args.filling.now.labels.nodes in
    let number = c.in-Some.number.now in
    let split = first_rest c.nodes.rest.now number c.in-Some.others.now c.in-Some.ensures.cases in
    let less = looking_first s u c.args.k nodes (g.S.Summaries.known c.nodes.self.sums.now) (gains_at nodes c.nodes.gains.items) c.nodes.looks.items c.args.filling.now.work.due.items c.nodes.rest.now number c.in-Some.others.now split c.nodes.invariant.looking in
    let node = c.requires.nodes (get_or nodes number []) (Contains-get_or nodes number [] less) in
    let same = c.nodes.invariant.went.same_system in
    let known = g.S.Summaries.known c.look_once.new.self.sums.now in
    let gains = gains_at nodes c.look_once.new.gains.items in
    let look : IsLook s u c.args.k known gains nodes c.in_ok-look.look = subst (λ (z : System). IsLook z u c.args.k known gains nodes c.in_ok-look.look) same c.in_ok-look.ensures.look in
    let added : (g : Gain) → Contains gains g → Contains (gains_at nodes c.nodes.gains.items) g ⊎ IsGain s u c.args.k (get_or nodes number []) g =
    subst (λ (z : System). (g : Gain) → Contains gains g → Contains (gains_at nodes c.nodes.gains.items) g ⊎ IsGain z u c.args.k (get_or nodes number []) g) same c.in_ok-look.ensures.added in
    record {
      looking = looking_next s u c.args.k nodes (g.S.Summaries.known c.nodes.self.sums.now) known (gains_at nodes c.nodes.gains.items) gains c.nodes.looks.items c.push.new.self.items c.args.filling.now.work.due.items c.nodes.rest.now number
          c.in-Some.others.now c.in_ok-look.look split c.nodes.invariant.looking node c.look_once.ensures.went.kept c.in_ok-look.ensures.kept added look c.in_ok-look.ensures.number c.in_ok-push.ensures.items;
      went = went_look g.S.Summaries u c.args.self.now c.nodes.self c.look_once.new.self (get_or nodes number []) node c.nodes.invariant.went c.look_once.ensures.went;
      spent = ok_spent c.look_once.result c.in_ok-look.look (g.S.Summaries.spent_on c.nodes.self.sums.now) (g.S.Summaries.spent_on c.look_once.new.self.sums.now) c.in_ok-look.was c.look_once.ensures.went.stays c.look_once.ensures.spent ∙ c.nodes.invariant.spent;
      numbers = c.in_ok-look.ensures.numbers c.nodes.invariant.numbers;
    }

pub returns-clause-found : goal.returns-clause-found
returns-clause-found g c =
    let f = c.nodes.invariant.looking in
    record {
      right = f.right;
      news = f.news;
      looks_are = f.looks_are;
      numbers = c.nodes.invariant.numbers;
      covers = looking_all c.args.self.now.system.now c.args.filling.now.labels.labels c.args.k c.args.filling.now.labels.nodes (g.S.Summaries.known c.nodes.self.sums.now) (gains_at c.args.filling.now.labels.nodes c.nodes.gains.items) c.nodes.looks.items c.args.filling.now.work.due.items c.nodes.rest.now f c.in_default.ensures.cases;
    }
