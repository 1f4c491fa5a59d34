-- What the rows of parts say.
use Rattle.std.proofs.Common.{◌≡◌, Bool, true, false, cond, if◌then◌else◌, List, [], ◌∷◌, ◌++◌, Option, Some, None, codes, refl, sym, ap, subst, ◌∙◌, append-nil, true≢false}
use Rattle.std.specs.Prelude.{option_and_then, find, option_map, slice_get, unwrap_or}
use Rattle.std.specs.Str.{bytes_eq}
use Rattle.std.proofs.lemmas.Option.{none-some}
use Rattle.std.proofs.lemmas.Slice.Eq.{bytes_eq-Decides}
use Rattle.clap.specs.Walk.{Row, Text, has_row, at_row, first_of, all_of, one_of, used, row_text, with_values, without, more_values, reading_by}
use Rattle.clap.specs.declared.builder.value_parser.Reading.{Reading}
use Rattle.clap.specs.declared.builder.value_parser.Reading.TheVariants.{AsWritten}
use Rattle.clap.specs.declared.parser.matches.ValueSource.TheVariants.{CommandLine}
use Rattle.command_words.specs.Parts.{Flag, plain, dead, runs, site, prune, flag_name, Key, pairs, nodes, entries, list, gen, key_name, Part, flag, given, name}
use Rattle.command_words.specs.Orders.{value_after}
use Rattle.command_words.proofs.Runs.{rule_flag, rule_key, rule_names, use_part}

abbrev pub row_at : Text → List Row → Option Row
row_at id rows = find (λ r. bytes_eq r.id id) rows

-- the first of two that is there
abbrev pub or_this : {X : Type 0} → Option X → Option X → Option X
or_this None other = other
or_this (Some x) other = Some x

or_nothing : {X : Type 0} (o : Option X) → or_this o None ≡ o
or_nothing None = refl
or_nothing (Some x) = refl

pub no_row : (id : Text) (rows : List Row) → has_row id rows ≡ false → row_at id rows ≡ None
no_row id [] e = refl
no_row id (r ∷ rows) e = go (λ so. no_row id rows so) (bytes_eq r.id id) refl
  where
    go : ((has_row id rows ≡ false) → row_at id rows ≡ None) → (b : Bool) → bytes_eq r.id id ≡ b → row_at id (r ∷ rows) ≡ None
    go ih true is = absurd (true≢false (sym (rw is refl) ∙ e))
    go ih false is = rw is (ih (sym (rw is refl) ∙ e))

pub new_row : (id : Text) (change : Row → List Row) (missing rows : List Row) → has_row id rows ≡ false → at_row id change missing rows ≡ rows ++ missing
new_row id change missing [] e = refl
new_row id change missing (r ∷ rows) e = go (λ so. new_row id change missing rows so) (bytes_eq r.id id) refl
  where
    go : ((has_row id rows ≡ false) → at_row id change missing rows ≡ rows ++ missing) → (b : Bool) → bytes_eq r.id id ≡ b → at_row id change missing (r ∷ rows) ≡ r ∷ rows ++ missing
    go ih true is = absurd (true≢false (sym (rw is refl) ∙ e))
    go ih false is = rw is (ap (λ z. r ∷ z) (ih (sym (rw is refl) ∙ e)))

pub row_behind : (id : Text) (rows : List Row) (r : Row) → row_at id (rows ++ r ∷ []) ≡ or_this (row_at id rows) (if bytes_eq r.id id then Some r else None)
row_behind id [] r = refl
row_behind id (x ∷ rows) r = go (row_behind id rows r) (bytes_eq x.id id) refl
  where
    go : row_at id (rows ++ r ∷ []) ≡ or_this (row_at id rows) (if bytes_eq r.id id then Some r else None) → (b : Bool) → bytes_eq x.id id ≡ b
        → row_at id (x ∷ rows ++ r ∷ []) ≡ or_this (row_at id (x ∷ rows)) (if bytes_eq r.id id then Some r else None)
    go ih true is = rw is refl
    go ih false is = rw is ih

-- an option that wasn't there has its row at the end
abbrev pub set_row : Text → Reading → List Text → Row
set_row id how vs = record { id = id; values = vs; count = None; source = Some CommandLine; reading = how }

pub set_is : (id : Text) (how : Reading) (vs : List Text) (rows : List Row) → has_row id rows ≡ false → with_values id how CommandLine vs (without id rows) ≡ rows ++ set_row id how vs ∷ []
set_is id how vs rows e =
    ap (with_values id how CommandLine vs) (new_row id (λ r. []) [] rows e ∙ append-nil rows)
    ∙ new_row id (more_values CommandLine vs) (set_row id how vs ∷ []) rows e

-- ---- names

pub text_is : (a b : Text) → bytes_eq a b ≡ true → a ≡ b
text_is a b e = (bytes_eq-Decides a b).0 e

-- another row than that of the names stays
pub other_kept : (id other : Text) (how : Reading) (vs : List Text) (rows : List Row) → bytes_eq id other ≡ false → row_at other (with_values id how CommandLine vs rows) ≡ row_at other rows
other_kept id other how vs [] e = rw e refl
other_kept id other how vs (r ∷ rows) e = go (other_kept id other how vs rows e) (bytes_eq r.id id) refl
  where
    go : row_at other (with_values id how CommandLine vs rows) ≡ row_at other rows → (b : Bool) → bytes_eq r.id id ≡ b → row_at other (with_values id how CommandLine vs (r ∷ rows)) ≡ row_at other (r ∷ rows)
    go ih true is = let no : bytes_eq r.id other ≡ false = subst (λ z. bytes_eq z other ≡ false) (sym (text_is r.id id is)) e in rw (is, no) refl
    go ih false is = rw is (ap (λ z. cond (bytes_eq r.id other) (Some r) z) ih)

abbrev pub more_of : Option (List Text) → List Text → Option (List Text)
more_of o vs = Some (unwrap_or o [] ++ vs)

pub names_more : (id : Text) (how : Reading) (vs : List Text) (rows : List Row) → bytes_eq id id ≡ true → all_of id (with_values id how CommandLine vs rows) ≡ more_of (all_of id rows) vs
names_more id how vs [] e = rw e refl
names_more id how vs (r ∷ rows) e = go (names_more id how vs rows e) (bytes_eq r.id id) refl
  where
    go : all_of id (with_values id how CommandLine vs rows) ≡ more_of (all_of id rows) vs → (b : Bool) → bytes_eq r.id id ≡ b → all_of id (with_values id how CommandLine vs (r ∷ rows)) ≡ more_of (all_of id (r ∷ rows)) vs
    go ih true is = rw (is, is) refl
    go ih false is = rw (is, is) ih

-- ---- the keys are different

pub flag_key : (f : Flag) (k : Key) → bytes_eq (flag_name f) (key_name k) ≡ false
flag_key plain pairs = refl
flag_key plain nodes = refl
flag_key plain entries = refl
flag_key plain list = refl
flag_key plain gen = refl
flag_key dead pairs = refl
flag_key dead nodes = refl
flag_key dead entries = refl
flag_key dead list = refl
flag_key dead gen = refl
flag_key runs pairs = refl
flag_key runs nodes = refl
flag_key runs entries = refl
flag_key runs list = refl
flag_key runs gen = refl
flag_key site pairs = refl
flag_key site nodes = refl
flag_key site entries = refl
flag_key site list = refl
flag_key site gen = refl
flag_key prune pairs = refl
flag_key prune nodes = refl
flag_key prune entries = refl
flag_key prune list = refl
flag_key prune gen = refl

pub key_flag : (k : Key) (f : Flag) → bytes_eq (key_name k) (flag_name f) ≡ false
key_flag pairs plain = refl
key_flag nodes plain = refl
key_flag entries plain = refl
key_flag list plain = refl
key_flag gen plain = refl
key_flag pairs dead = refl
key_flag nodes dead = refl
key_flag entries dead = refl
key_flag list dead = refl
key_flag gen dead = refl
key_flag pairs runs = refl
key_flag nodes runs = refl
key_flag entries runs = refl
key_flag list runs = refl
key_flag gen runs = refl
key_flag pairs site = refl
key_flag nodes site = refl
key_flag entries site = refl
key_flag list site = refl
key_flag gen site = refl
key_flag pairs prune = refl
key_flag nodes prune = refl
key_flag entries prune = refl
key_flag list prune = refl
key_flag gen prune = refl

pub names_flag : (f : Flag) → bytes_eq (codes "names") (flag_name f) ≡ false
names_flag plain = refl
names_flag dead = refl
names_flag runs = refl
names_flag site = refl
names_flag prune = refl

pub flag_names : (f : Flag) → bytes_eq (flag_name f) (codes "names") ≡ false
flag_names plain = refl
flag_names dead = refl
flag_names runs = refl
flag_names site = refl
flag_names prune = refl

pub flag_flag : (f : Flag) → bytes_eq (flag_name f) (flag_name f) ≡ true
flag_flag plain = refl
flag_flag dead = refl
flag_flag runs = refl
flag_flag site = refl
flag_flag prune = refl

pub names_key : (k : Key) → bytes_eq (codes "names") (key_name k) ≡ false
names_key pairs = refl
names_key nodes = refl
names_key entries = refl
names_key list = refl
names_key gen = refl

pub key_names : (k : Key) → bytes_eq (key_name k) (codes "names") ≡ false
key_names pairs = refl
key_names nodes = refl
key_names entries = refl
key_names list = refl
key_names gen = refl

pub key_key : (k : Key) → bytes_eq (key_name k) (key_name k) ≡ true
key_key pairs = refl
key_key nodes = refl
key_key entries = refl
key_key list = refl
key_key gen = refl

-- ---- one part more

pub gated : {X : Type 0} (b : Bool) (x y : X) → (if b then None else Some x) ≡ Some y → (b ≡ false) × (x ≡ y)
gated true x y e = absurd (none-some y e)
gated false x y e = (refl, ap (λ o. unwrap_or o x) e)

abbrev pub flag_after : Flag → Part → Option Text → Option Text
flag_after f (flag g) o = if bytes_eq (flag_name g) (flag_name f) then Some (codes "true") else o
flag_after f (given k v) o = o
flag_after f (name x) o = o

abbrev pub names_after : Part → Option (List Text) → Option (List Text)
names_after (flag f) o = o
names_after (given k v) o = o
names_after (name x) o = more_of o (x ∷ [])

-- a new row for another id
pub kept_behind : {Y : Type 0} (f : Row → Option Y) (id : Text) (rows : List Row) (r : Row) → bytes_eq r.id id ≡ false → option_and_then f (row_at id (rows ++ r ∷ [])) ≡ option_and_then f (row_at id rows)
kept_behind f id rows r other = ap (option_and_then f) (row_behind id rows r ∙ ap (λ b. or_this (row_at id rows) (if b then Some r else None)) other ∙ or_nothing (row_at id rows))

pub there_behind : {Y : Type 0} (f : Row → Option Y) (id : Text) (rows : List Row) (r : Row) → has_row id rows ≡ false → bytes_eq r.id id ≡ true → option_and_then f (row_at id (rows ++ r ∷ [])) ≡ f r
there_behind f id rows r fresh same = ap (option_and_then f) (row_behind id rows r ∙ ap (λ b. or_this (row_at id rows) (if b then Some r else None)) same ∙ ap (λ o. or_this o (Some r)) (no_row id rows fresh))

pub flag_step : (f : Flag) (p : Part) (rows after : List Row) → use_part rows p ≡ Some after → one_of (flag_name f) after ≡ flag_after f p (one_of (flag_name f) rows)
flag_step f (flag g) rows after e =
    let it = gated (has_row (flag_name g) rows) (used (rule_flag g) [] rows) after e in
    ap (one_of (flag_name f)) (sym it.1 ∙ set_is (flag_name g) _ (codes "true" ∷ []) rows it.0) ∙ go it.0 (bytes_eq (flag_name g) (flag_name f)) refl
  where
    row : Row
    row = set_row (flag_name g) (reading_by (rule_flag g)) (codes "true" ∷ [])

    go : has_row (flag_name g) rows ≡ false → (b : Bool) → bytes_eq (flag_name g) (flag_name f) ≡ b
        → option_and_then row_text (row_at (flag_name f) (rows ++ row ∷ [])) ≡ (if bytes_eq (flag_name g) (flag_name f) then Some (codes "true") else one_of (flag_name f) rows)
    go fresh true is = there_behind row_text (flag_name f) rows row (subst (λ z. has_row z rows ≡ false) (text_is (flag_name g) (flag_name f) is) fresh) is ∙ sym (ap (λ b. if b then Some (codes "true") else one_of (flag_name f) rows) is)
    go fresh false is = kept_behind row_text (flag_name f) rows row is ∙ sym (ap (λ b. if b then Some (codes "true") else one_of (flag_name f) rows) is)
flag_step f (given k v) rows after e =
    let it = gated (has_row (key_name k) rows) (used (rule_key k) (v ∷ []) rows) after e in
    ap (one_of (flag_name f)) (sym it.1 ∙ set_is (key_name k) _ (v ∷ []) rows it.0) ∙ kept_behind row_text (flag_name f) rows _ (key_flag k f)
flag_step f (name x) rows after e =
    let it : used rule_names (x ∷ []) rows ≡ after = ap (λ o. unwrap_or o rows) e in
    ap (one_of (flag_name f)) (sym it) ∙ ap (option_and_then row_text) (other_kept (codes "names") (flag_name f) _ (x ∷ []) rows (names_flag f))

abbrev first_text : Row → Option Text
first_text r = slice_get r.values 0

pub key_step : (k : Key) (p : Part) (rows after : List Row) → use_part rows p ≡ Some after → first_of (key_name k) after ≡ value_after k p (first_of (key_name k) rows)
key_step k (flag f) rows after e =
    let it = gated (has_row (flag_name f) rows) (used (rule_flag f) [] rows) after e in
    ap (first_of (key_name k)) (sym it.1 ∙ set_is (flag_name f) _ (codes "true" ∷ []) rows it.0) ∙ kept_behind first_text (key_name k) rows _ (flag_key f k)
key_step k (given j v) rows after e =
    let it = gated (has_row (key_name j) rows) (used (rule_key j) (v ∷ []) rows) after e in
    ap (first_of (key_name k)) (sym it.1 ∙ set_is (key_name j) _ (v ∷ []) rows it.0) ∙ go it.0 (bytes_eq (key_name j) (key_name k)) refl
  where
    go : has_row (key_name j) rows ≡ false → (b : Bool) → bytes_eq (key_name j) (key_name k) ≡ b
        → option_and_then first_text (row_at (key_name k) (rows ++ set_row (key_name j) AsWritten (v ∷ []) ∷ [])) ≡ (if bytes_eq (key_name j) (key_name k) then Some v else first_of (key_name k) rows)
    go fresh true is = there_behind first_text (key_name k) rows _ (subst (λ z. has_row z rows ≡ false) (text_is (key_name j) (key_name k) is) fresh) is ∙ sym (ap (λ b. if b then Some v else first_of (key_name k) rows) is)
    go fresh false is = kept_behind first_text (key_name k) rows _ is ∙ sym (ap (λ b. if b then Some v else first_of (key_name k) rows) is)
key_step k (name x) rows after e =
    let it : used rule_names (x ∷ []) rows ≡ after = ap (λ o. unwrap_or o rows) e in
    ap (first_of (key_name k)) (sym it) ∙ ap (option_and_then first_text) (other_kept (codes "names") (key_name k) _ (x ∷ []) rows (names_key k))

all_texts : (id : Text) (rows : List Row) → all_of id rows ≡ option_and_then (λ (r : Row). Some r.values) (row_at id rows)
all_texts id rows = go (row_at id rows)
  where
    go : (o : Option Row) → option_map (λ (r : Row). r.values) o ≡ option_and_then (λ (r : Row). Some r.values) o
    go None = refl
    go (Some r) = refl

pub names_kept : (rows : List Row) (r : Row) → bytes_eq r.id (codes "names") ≡ false → all_of (codes "names") (rows ++ r ∷ []) ≡ all_of (codes "names") rows
names_kept rows r other = all_texts (codes "names") (rows ++ r ∷ []) ∙ kept_behind (λ r. Some r.values) (codes "names") rows r other ∙ sym (all_texts (codes "names") rows)

pub names_step : (p : Part) (rows after : List Row) → use_part rows p ≡ Some after → all_of (codes "names") after ≡ names_after p (all_of (codes "names") rows)
names_step (flag f) rows after e =
    let it = gated (has_row (flag_name f) rows) (used (rule_flag f) [] rows) after e in
    ap (all_of (codes "names")) (sym it.1 ∙ set_is (flag_name f) _ (codes "true" ∷ []) rows it.0) ∙ names_kept rows _ (flag_names f)
names_step (given k v) rows after e =
    let it = gated (has_row (key_name k) rows) (used (rule_key k) (v ∷ []) rows) after e in
    ap (all_of (codes "names")) (sym it.1 ∙ set_is (key_name k) _ (v ∷ []) rows it.0) ∙ names_kept rows _ (key_names k)
names_step (name x) rows after e =
    let it : used rule_names (x ∷ []) rows ≡ after = ap (λ o. unwrap_or o rows) e in
    ap (all_of (codes "names")) (sym it) ∙ names_more (codes "names") _ (x ∷ []) rows refl
