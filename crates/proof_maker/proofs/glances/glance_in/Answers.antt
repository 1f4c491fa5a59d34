use Rattle.proof_maker.proofs.glances.glance_in.Goals as goal

pub returns-clause-glance : goal.returns-clause-glance
returns-clause-glance g c = record {
  first = c.requires.first;
  choice = c.in_ok-found.ensures.choice;
  below = c.in_ok-found.ensures.below;
}
