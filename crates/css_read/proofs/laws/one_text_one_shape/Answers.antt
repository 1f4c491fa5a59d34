use Rattle.css_read.proofs.ShapeLemmas.{one_shape}
use Rattle.css_read.proofs.laws.one_text_one_shape.Goals as goal

pub returns : goal.returns
returns c = one_shape c.args.text.now
