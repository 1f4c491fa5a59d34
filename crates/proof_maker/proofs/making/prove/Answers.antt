use Rattle.proof_maker.proofs.making.prove.Goals as goal

pub prove_next-requires-clause-memo : goal.prove_next-requires-clause-memo
prove_next-requires-clause-memo g c = c.new-memo.ensures c.args.system.now
