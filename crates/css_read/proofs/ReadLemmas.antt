-- What holds of what is read, if something is.
use Rattle.std.proofs.Common.{Bool, true, false, if◌then◌else◌, ℕ, List, Ok, Err}
use Rattle.tp_base.specs.Names.{Named}
use Rattle.sel_text.specs.declared.faults.SelFault.TheVariants as sel
use Rattle.sel_text.specs.Reading as one
use Rattle.sel_text.specs.Selectors.{Selector}
use Rattle.css_read.specs.declared.sheets.Range.{Range}
use Rattle.css_read.specs.Reading.{Ending, then_read, item, item_from}
use Rattle.css_read.specs.Sheets.{Outcome, judged, skipped, Item}

abbrev pub IfRead : {A : Type 0} → (A → Type 0) → Ending A → Type 0
IfRead P (names, Ok x) = P x
IfRead P (names, Err e) = Unit {0}

pub after : {A B : Type 0} (P : A → Type 0) (Q : B → Type 0) (e : Ending A) (f : List Named → A → Ending B) → IfRead P e → ((names : List Named) (x : A) → P x → IfRead Q (f names x)) → IfRead Q (then_read e f)
after P Q (names, Ok x) f here later = later names x here
after P Q (names, Err e) f here later = tt

pub choose : {A : Type 0} (P : A → Type 0) (test : Bool) (e f : Ending A) → IfRead P e → IfRead P f → IfRead P (if test then e else f)
choose P true e f first second = first
choose P false e f first second = second

-- of an item that comes of a selector, whatever that is read as
pub from_any : (P : Item → Type 0) (rule : ℕ) (p : Range) (e : one.Ending Selector) → ((o : Outcome) → P (item rule p o)) → IfRead P (item_from rule p e)
from_any P rule p (names, Ok s) holds = holds (judged s)
from_any P rule p (names, Err (sel.Skipped why at)) holds = holds (skipped why at)
from_any P rule p (names, Err sel.TooManyAtoms) holds = tt
from_any P rule p (names, Err sel.Memory) holds = tt
