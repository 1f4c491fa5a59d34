-- Texts joined, word by word.
use Rattle.std.proofs.Common.{◌≡◌, ℕ, true, false, List, [], ◌∷◌, ◌++◌, drop, Option, Some, None, refl, ap, ◌∙◌, codes}
use Rattle.std.proofs.lemmas.List.{append_assoc}
use Rattle.jq_words.specs.Words.{Word, is_text, is_mark, letters_of, is_form}
use Rattle.jq_words.specs.Texts.{holds_texts, texts, closed_texts, with_letters}

pub no_word : (ws : List Word) → ws ≡ [] → holds_texts ws ≡ false
unfolding holds_texts
no_word ws none = rw none refl

pub one_word : (t : Word) (ws : List Word) → ws ≡ t ∷ drop 1 ws → drop 1 ws ≡ [] → holds_texts ws ≡ false
unfolding holds_texts
one_word t ws here none = ap holds_texts (here ∙ ap (λ r. t ∷ r) none)

two : (t m : Word) (ws : List Word) → ws ≡ t ∷ drop 1 ws → drop 1 ws ≡ m ∷ drop 1 (drop 1 ws) → ws ≡ t ∷ m ∷ drop 1 (drop 1 ws)
two t m ws here next = here ∙ ap (λ r. t ∷ r) next

pub no_text : (t m : Word) (ws : List Word) → ws ≡ t ∷ drop 1 ws → drop 1 ws ≡ m ∷ drop 1 (drop 1 ws) → is_text t ≡ false → holds_texts ws ≡ false
unfolding holds_texts
no_text t m ws here next other = ap holds_texts (two t m ws here next) ∙ rw other refl

pub closed : (t m : Word) (ws : List Word)
    → ws ≡ t ∷ drop 1 ws → drop 1 ws ≡ m ∷ drop 1 (drop 1 ws) → is_text t ≡ true → is_mark (codes ")") m ≡ true → holds_texts ws ≡ true
unfolding holds_texts
closed t m ws here next is close = ap holds_texts (two t m ws here next) ∙ rw (is, close) refl

pub not_joined : (t m : Word) (ws : List Word)
    → ws ≡ t ∷ drop 1 ws → drop 1 ws ≡ m ∷ drop 1 (drop 1 ws) → is_text t ≡ true → is_mark (codes ")") m ≡ false → is_mark (codes "+") m ≡ false → holds_texts ws ≡ false
unfolding holds_texts
not_joined t m ws here next is close plus = ap holds_texts (two t m ws here next) ∙ rw (is, close, plus) refl

pub joined : (t m : Word) (ws : List Word)
    → ws ≡ t ∷ drop 1 ws → drop 1 ws ≡ m ∷ drop 1 (drop 1 ws) → is_text t ≡ true → is_mark (codes ")") m ≡ false → is_mark (codes "+") m ≡ true
    → holds_texts ws ≡ holds_texts (drop 1 (drop 1 ws))
unfolding holds_texts
joined t m ws here next is close plus = ap holds_texts (two t m ws here next) ∙ rw (is, close, plus) refl

-- ---- the letters of Texts, joined

none_before : (r : Option (List ℕ)) → with_letters [] r ≡ r
unfolding with_letters
none_before None = refl
none_before (Some l) = refl

regroup : (letters more : List ℕ) (r : Option (List ℕ)) → with_letters letters (with_letters more r) ≡ with_letters (letters ++ more) r
unfolding with_letters
regroup letters more None = refl
regroup letters more (Some l) = rw append_assoc refl

other_one : (t : Word) (ws : List Word) → is_text t ≡ false → texts (t ∷ ws) ≡ None
unfolding texts
other_one t [] other = rw other refl
other_one t (m ∷ ws) other = rw other refl

pub begins : (ws : List Word) → with_letters [] (texts ws) ≡ texts ws
begins ws = none_before (texts ws)

pub no_texts : (ws : List Word) → ws ≡ [] → texts ws ≡ None
unfolding texts
no_texts ws none = rw none refl

pub other_first : (t : Word) (ws : List Word) → ws ≡ t ∷ drop 1 ws → is_text t ≡ false → texts ws ≡ None
other_first t ws here other = ap texts here ∙ other_one t (drop 1 ws) other

pub last_text : (letters : List ℕ) (t : Word) (ws : List Word)
    → ws ≡ t ∷ drop 1 ws → drop 1 ws ≡ [] → is_text t ≡ true → with_letters letters (texts ws) ≡ Some (letters ++ letters_of t)
unfolding texts with_letters
last_text letters t ws here none is = ap (λ r. with_letters letters (texts r)) (here ∙ ap (λ r. t ∷ r) none) ∙ rw is refl

pub other_second : (t m : Word) (ws : List Word) → ws ≡ t ∷ drop 1 ws → drop 1 ws ≡ m ∷ drop 1 (drop 1 ws) → is_text t ≡ true → is_mark (codes "+") m ≡ false → texts ws ≡ None
unfolding texts
other_second t m ws here next is plus = ap texts (two t m ws here next) ∙ rw (is, plus) refl

pub one_joined : (letters : List ℕ) (t m : Word) (ws : List Word)
    → ws ≡ t ∷ drop 1 ws → drop 1 ws ≡ m ∷ drop 1 (drop 1 ws) → is_text t ≡ true → is_mark (codes "+") m ≡ true
    → with_letters letters (texts ws) ≡ with_letters (letters ++ letters_of t) (texts (drop 1 (drop 1 ws)))
unfolding texts
one_joined letters t m ws here next is plus =
    ap (λ r. with_letters letters (texts r)) (two t m ws here next) ∙ rw (is, plus) (regroup letters (letters_of t) (texts (drop 1 (drop 1 ws))))

pub none_behind : (letters : List ℕ) → with_letters letters None ≡ None
unfolding with_letters
none_behind letters = refl

-- ---- the same before a closing bracket

pub begins_closed : (ws : List Word) → with_letters [] (closed_texts ws) ≡ closed_texts ws
begins_closed ws = none_before (closed_texts ws)

pub none_closed : (ws : List Word) → ws ≡ [] → closed_texts ws ≡ None
unfolding closed_texts
none_closed ws none = rw none refl

pub one_closed : (t : Word) (ws : List Word) → ws ≡ t ∷ drop 1 ws → drop 1 ws ≡ [] → closed_texts ws ≡ None
unfolding closed_texts
one_closed t ws here none = ap closed_texts (here ∙ ap (λ r. t ∷ r) none)

pub no_text_closed : (t m : Word) (ws : List Word) → ws ≡ t ∷ drop 1 ws → drop 1 ws ≡ m ∷ drop 1 (drop 1 ws) → is_text t ≡ false → closed_texts ws ≡ None
unfolding closed_texts
no_text_closed t m ws here next other = ap closed_texts (two t m ws here next) ∙ rw other refl

pub joined_closed : (letters : List ℕ) (t m : Word) (ws : List Word)
    → ws ≡ t ∷ drop 1 ws → drop 1 ws ≡ m ∷ drop 1 (drop 1 ws) → is_text t ≡ true → is_mark (codes "+") m ≡ true
    → with_letters letters (closed_texts ws) ≡ with_letters (letters ++ letters_of t) (closed_texts (drop 1 (drop 1 ws)))
unfolding closed_texts
joined_closed letters t m ws here next is plus =
    ap (λ r. with_letters letters (closed_texts r)) (two t m ws here next) ∙ rw (is, plus) (regroup letters (letters_of t) (closed_texts (drop 1 (drop 1 ws))))

pub last_closed : (letters : List ℕ) (t m : Word) (ws : List Word)
    → ws ≡ t ∷ drop 1 ws → drop 1 ws ≡ m ∷ drop 1 (drop 1 ws) → is_text t ≡ true → is_mark (codes "+") m ≡ false → is_mark (codes ")") m ≡ true
    → drop 1 (drop 1 ws) ≡ [] → with_letters letters (closed_texts ws) ≡ Some (letters ++ letters_of t)
unfolding closed_texts with_letters is_form
last_closed letters t m ws here next is plus close none =
    ap (λ r. with_letters letters (closed_texts r)) (two t m ws here next ∙ ap (λ r. t ∷ m ∷ r) none) ∙ rw (is, plus, close) refl

pub open_closed : (t m : Word) (ws : List Word)
    → ws ≡ t ∷ drop 1 ws → drop 1 ws ≡ m ∷ drop 1 (drop 1 ws) → is_text t ≡ true → is_mark (codes "+") m ≡ false → is_mark (codes ")") m ≡ false → closed_texts ws ≡ None
unfolding closed_texts is_form
open_closed t m ws here next is plus close = ap closed_texts (two t m ws here next) ∙ rw (is, plus, close) refl

pub more_closed : (t m n : Word) (ws : List Word)
    → ws ≡ t ∷ drop 1 ws → drop 1 ws ≡ m ∷ drop 1 (drop 1 ws) → is_text t ≡ true → is_mark (codes "+") m ≡ false → is_mark (codes ")") m ≡ true
    → drop 1 (drop 1 ws) ≡ n ∷ drop 1 (drop 1 (drop 1 ws)) → closed_texts ws ≡ None
unfolding closed_texts is_form
more_closed t m n ws here next is plus close more =
    ap closed_texts (two t m ws here next ∙ ap (λ r. t ∷ m ∷ r) more) ∙ rw (is, plus, close) refl
