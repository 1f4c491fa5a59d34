use Rattle.std.proofs.Common.{◌≡◌, ◌<◌, None, length, arith}
use Rattle.rule_index.proofs.IndexLemmas.{first_rest}
use Rattle.class_adding.specs.declared.looking.Look.{Look}
use Rattle.class_adding.proofs.WrittenLemmas.{writing_start, writing_next, writing_all, left_first}
use Rattle.class_adding.proofs.work.write_all_wakes.Goals as goal

pub looks-init : goal.looks-init
looks-init c = writing_start (λ (m : Look). m.wake) None c.args.looks.now c.args.wakes.now.items

pub write_wake-requires : goal.write_wake-requires
write_wake-requires c =
    let split = first_rest c.looks.rest.now c.in-Some.look.now c.in-Some.others.now c.in-Some.ensures.cases in
    let count : length c.looks.wakes.items ≡ length c.args.wakes.now.items = c.looks.invariant.count in
    let less : c.in-Some.look.now.number < length c.args.wakes.now.items = c.requires c.in-Some.look.now (left_first c.args.looks.now c.looks.rest.now c.in-Some.look.now c.in-Some.others.now split c.looks.invariant.left) in
    omega (arith, less, count)

pub looks-preserved : goal.looks-preserved
looks-preserved c =
    let split = first_rest c.looks.rest.now c.in-Some.look.now c.in-Some.others.now c.in-Some.ensures.cases in
    writing_next (λ (m : Look). m.wake) None c.args.looks.now c.looks.rest.now c.args.wakes.now.items c.looks.wakes.items c.write_wake.new.wakes.items c.in-Some.look.now c.in-Some.others.now split
    (c.requires c.in-Some.look.now (left_first c.args.looks.now c.looks.rest.now c.in-Some.look.now c.in-Some.others.now split c.looks.invariant.left)) c.write_wake.ensures c.looks.invariant

pub returns : goal.returns
returns c = writing_all (λ (m : Look). m.wake) None c.args.looks.now c.looks.rest.now c.args.wakes.now.items c.looks.wakes.items c.in_default.ensures.cases c.looks.invariant
