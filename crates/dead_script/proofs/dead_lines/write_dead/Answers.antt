use Rattle.std.proofs.Common.{length, ap, ◌∙◌}
use Rattle.std.proofs.lemmas.List.FromFn.{length-range_with_len}
use Rattle.dead_script.proofs.dead_lines.write_dead.Goals as goal

pub write_asked-requires-clause-one_each : goal.write_asked-requires-clause-one_each
write_asked-requires-clause-one_each g c = ap length (c.deref.ensures.value ∙ c.in_ok-numbers.ensures) ∙ length-range_with_len 0 (length c.args.extra.now) ∙ c.requires.one_each
