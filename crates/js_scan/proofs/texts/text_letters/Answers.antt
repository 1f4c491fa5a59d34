use Rattle.js_scan.proofs.Utf8Lemmas.{letters_utf8}
use Rattle.js_scan.proofs.texts.text_letters.Goals as goal

pub letters_of-requires : goal.letters_of-requires
letters_of-requires c = record {
  text = letters_utf8 c.args.quote c.args.at c.args.text.now c.in_ok-letters.letters.items c.in_ok-letters.rest.now c.requires.text c.in_ok-letters.ensures.gives;
}
