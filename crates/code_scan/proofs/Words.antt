-- The words that the code tells apart are those of the definitions.
use Rattle.std.proofs.Common.{◌≡◌, map, refl}
use Rattle.code_scan.specs.declared.state.TheConstants.{OPENERS, HEADINGS, KEYWORDS}
use Rattle.code_scan.specs.States.{openers, headings, keywords}

pub same_openers : map (λ n. n.now) OPENERS ≡ openers
same_openers = refl

pub same_headings : map (λ n. n.now) HEADINGS ≡ headings
same_headings = refl

pub same_keywords : map (λ n. n.now) KEYWORDS ≡ keywords
same_keywords = refl
