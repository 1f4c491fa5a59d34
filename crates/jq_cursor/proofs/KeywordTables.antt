-- The tables of names in the code are those of the definitions.
use Rattle.std.proofs.Common.{◌≡◌, map, refl}
use Rattle.jq_cursor.specs.Keywords.{jquery, pages}
use Rattle.jq_cursor.specs.declared.keywords.TheConstants.{JQUERY, PAGES}

pub same_jquery : map (λ k. k.now) JQUERY ≡ jquery
same_jquery = refl

pub same_pages : map (λ k. k.now) PAGES ≡ pages
same_pages = refl
