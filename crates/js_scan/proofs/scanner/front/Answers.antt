use Rattle.js_scan.proofs.Utf8Lemmas.{behind_quote}
use Rattle.js_scan.proofs.scanner.front.Goals as goal

pub text_front-requires : goal.text_front-requires
text_front-requires c = record {
  text = behind_quote c.in-Some.first.now c.in-Some.behind.now (rw c.in-Some.ensures.cases.0 at c.requires.text) (rw c.is_quote.ensures at c.if-is_quote.true);
}
