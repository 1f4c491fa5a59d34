use Rattle.judge.proofs.proving.used_by.Goals as goal

pub steps-count-requires : goal.steps-count-requires
steps-count-requires c = record { valid = (c.args.ground.now.page.now, c.args.atom, c.requires.valid) }

pub returns : goal.returns
returns c = record {
  canonical = c.requires.canonical;
  valid = c.requires.valid;
  within = c.requires.within;
  count = c.steps-count.ensures c.args.ground.now.page.now c.args.atom;
  shows = c.in_ok-shown.ensures;
}
