use Rattle.std.proofs.lemmas.Str.{IsUtf8-string_bytes}
use Rattle.js_scan.proofs.token.Letters.items.Goals as goal

pub returns-clause-utf8 : goal.returns-clause-utf8
returns-clause-utf8 c = rw (← c.self.view_is) (IsUtf8-string_bytes c.self.inside.text)
