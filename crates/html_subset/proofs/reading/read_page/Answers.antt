use Rattle.std.proofs.Common.{length}
use Rattle.text_bytes.specs.OrderMark.{behind_order_mark}
use Rattle.html_tokens.specs.Tokens.{tokens}
use Rattle.html_subset.proofs.AtomLemmas.{page_result_over}
use Rattle.html_subset.proofs.reading.read_page.Goals as goal

pub returns-in-Ok-clause-over : goal.returns-in-Ok-clause-over
returns-in-Ok-clause-over c =
    page_result_over c.page.result (tokens (length c.args.text.now) (behind_order_mark c.args.text.now)) c.args.atoms.now c.page.new.atoms c.page.ensures.reads
