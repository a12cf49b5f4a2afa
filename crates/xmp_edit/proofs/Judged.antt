-- What passes the tests of a line is allowed.
use Rattle.std.proofs.Common.{◌≡◌, ◌↔◌, ◌∙◌, ◌+◌, ◌≤◌, ◌<◌, ℕ, Bool, true, false, List, [], ◌∷◌, ◌++◌, length, Option, Some, None, refl, ap, sym, cond, arith}
use Rattle.std.specs.Prelude.{All, IfSome, ◌&&◌, ◌==◌, not, nat_le, option_map, option_and_then}
use Rattle.std.specs.List.{fold, list_all}
use Rattle.std.specs.Char.{is_ascii_alphabetic}
use Rattle.std.specs.Str.{chars, IsUtf8}
use Rattle.std.proofs.lemmas.Bool.{and_parts, and_from, both_ways, not-true, eqb-false}
use Rattle.std.proofs.lemmas.Bool.Decides.{nat_tests}
use Rattle.std.proofs.lemmas.List.Elements.{All-nil, All-cons}
use Rattle.std.proofs.lemmas.Str.{chars-encodes, encodes-chars, IsUtf8-from_is_utf8, is_utf8-from_IsUtf8, encodes-IsAscii}
use Rattle.std.proofs.lemmas.Str.Ascii.{IsAscii-from_all}
use Rattle.xmp_values.specs.Characters.{IsCharText, is_char}
use Rattle.xmp_values.specs.declared.text.Name.{Name}
use Rattle.xmp_values.proofs.CharacterTexts.{IsCharText-spells, char_scalars}
use Rattle.xmp_tree.specs.Wf.{lang_name, type_name}
use Rattle.xmp_tree.specs.Places.{same_name}
use Rattle.xmp_tree.proofs.PlaceLemmas.{same_name_is}
use Rattle.xmp_paths.specs.declared.step.Step.{Step}
use Rattle.xmp_paths.specs.declared.step.Step.TheVariants.{Field, Qualifier, Item, Tag}
use Rattle.xmp_paths.specs.Grammar.{is_name, is_tag_byte, is_lang_tag, place_of_number, prefixed, spelled}
use Rattle.xmp_values.specs.Characters.{IsName}
use Rattle.xmp_values.specs.Hints.{IsValidHint}
use Rattle.xmp_values.specs.Spaces.{xmlns_space}
use Rattle.xmp_paths.specs.declared.spelling.Prefixed.{Prefixed}
use Rattle.xmp_paths.specs.declared.spelling.SpelledStep.{SpelledStep}
use Rattle.xmp_paths.specs.declared.spelling.SpelledStep.TheVariants as spelt
use Rattle.xmp_paths.specs.declared.spelling.Spelling.{Spelling}
use Rattle.xmp_paths.specs.Allowed.{AreSpelledSteps, IsSpelling}
use Rattle.xmp_paths.proofs.NameTests.{is_name-IsName}
use Rattle.xmp_paths.proofs.SpelledNames.{prefixed_local, spelled_names}
use Rattle.xmp_paths.specs.Parts.{PathParts}
use Rattle.xmp_paths.specs.Allowed.{IsAllowedPath}
use Rattle.xmp_paths.proofs.Options.{some_if, some_and_then}
use Rattle.xmp_edit.specs.declared.action.Action.{Action}
use Rattle.xmp_edit.specs.declared.action.Action.TheVariants.{SetText, SetUri, Delete, MakeArray, MakeStruct, Append, Insert, SetLang}
use Rattle.xmp_edit.specs.declared.line.Line.{Line}
use Rattle.xmp_edit.specs.declared.line.Line.TheVariants as lines
use Rattle.xmp_edit.specs.declared.words.Told.{Told}
use Rattle.xmp_edit.specs.declared.words.Three.{Three}
use Rattle.xmp_edit.specs.declared.words.Command.{Command}
use Rattle.xmp_edit.specs.declared.words.Command.TheVariants as commands
use Rattle.xmp_edit.specs.Lines.{worded, told, three, is_last_word, ns_line, lone_line, kind_of, array_line, command_of, formed, commanded, is_skipped, line_of}
use Rattle.xmp_edit.specs.Allowed.{last_from, last_step, IsNot, MayEnd, texts_of, levels_of, IsAllowed, IsFormed}
use Rattle.xmp_edit.specs.Judging.{is_chars, is_qualifier, may_end, has_chars, has_tags, qualified, spelling_of}

-- the test of texts
pub is_chars-IsCharText : (bytes : List ℕ) → IsCharText bytes ↔ (is_chars bytes ≡ true)
is_chars-IsCharText bytes = (
  λ h. let k = (IsCharText-spells bytes).0 h in
      let scalar = char_scalars k.0 k.2 in
      let utf8 : IsUtf8 bytes = (k.0, (scalar, sym k.1)) in
      let spelled : chars bytes ≡ k.0 = ap chars k.1 ∙ chars-encodes k.0 scalar in
      and_from _ _ (is_utf8-from_IsUtf8 bytes utf8) (ap (list_all is_char) spelled ∙ k.2),
  λ h. let both = and_parts _ _ h in
      (IsCharText-spells bytes).1 (chars bytes, sym (encodes-chars bytes (IsUtf8-from_is_utf8 bytes both.0)), both.1),
)

-- the last of steps
pub fold_last : (t : Step → Bool) (a : Bool) (s : Step) (ss : List Step) → a ≡ t s → fold (λ _ x. t x) a ss ≡ t (last_from s ss)
fold_last t a s [] e = e
fold_last t a s (x ∷ xs) e = fold_last t (t x) x xs refl

-- a language tag is made of Chars
tag_byte : (b : ℕ) → is_tag_byte b ≡ true → (b < 128) × (is_char b ≡ true)
unfolding is_char
tag_byte b h = (grind (arith, nat_tests), grind (arith, nat_tests))

letter_is : (b : ℕ) → is_ascii_alphabetic b ≡ true → is_tag_byte b ≡ true
letter_is b h = grind (arith, nat_tests)

tag_bytes : (bs : List ℕ) → list_all is_tag_byte bs ≡ true → All (λ b. b < 128) bs × (list_all is_char bs ≡ true)
tag_bytes [] h = (All-nil (λ b. b < 128), refl)
tag_bytes (b ∷ bs) h =
    let both = and_parts _ _ h in
    let more = tag_bytes bs both.1 in
    (All-cons (λ b. b < 128) b bs (tag_byte b both.0).0 more.0, and_from _ _ (tag_byte b both.0).1 more.1)

pub tag_chars : (bs : List ℕ) → is_lang_tag bs ≡ true → IsCharText bs
tag_chars [] h = absurd cc
tag_chars (b ∷ bs) h =
    let all = and_parts (is_ascii_alphabetic b && list_all is_tag_byte bs) (nat_le (length bs) 99) h in
    let two = and_parts (is_ascii_alphabetic b) (list_all is_tag_byte bs) all.0 in
    let each = tag_bytes (b ∷ bs) (and_from _ _ (letter_is b two.0) two.1) in
    (IsCharText-spells (b ∷ bs)).1 (b ∷ bs, sym (encodes-IsAscii (b ∷ bs) (IsAscii-from_all (b ∷ bs) each.0)), each.1)

-- the last step
is_not : (name : Name) (s : Step) → not (is_qualifier name s) ≡ true → IsNot name s
is_not name (Field n) h = tt
is_not name (Qualifier n) h = λ e. both_ways (same_name n name) (not-true (same_name n name) h) ((same_name_is n name).1 e)
is_not name (Item at) h = tt
is_not name (Tag tag) h = tt

ends_well : (s : Step) (a : Action) → may_end s a ≡ true → MayEnd s a
ends_well s (SetText text) h = let both = and_parts _ _ h in is_not type_name s both.0
ends_well s (SetUri uri) h = is_not lang_name s h
ends_well s Delete h = tt
ends_well s (MakeArray kind) h = let both = and_parts _ _ h in (is_not type_name s both.0, is_not lang_name s both.1)
ends_well s MakeStruct h = let both = and_parts _ _ h in (is_not type_name s both.0, is_not lang_name s both.1)
ends_well s (Append text) h = let both = and_parts _ _ h in (is_not type_name s both.0, is_not lang_name s both.1)
ends_well s (Insert at text) h = let both = and_parts _ _ h in (is_not type_name s both.0, is_not lang_name s both.1)
ends_well s (SetLang tag text) h = let both = and_parts _ _ h in (is_not type_name s both.0, is_not lang_name s both.1)

one_text : (text : List ℕ) → is_chars text ≡ true → All IsCharText (text ∷ [])
one_text text h = All-cons IsCharText text [] ((is_chars-IsCharText text).1 h) (All-nil IsCharText)

texts_well : (s : Step) (a : Action) → has_chars a ≡ true → has_tags s a ≡ true → All IsCharText (texts_of a)
texts_well s (SetText text) h t = one_text text h
texts_well s (SetUri uri) h t = one_text uri h
texts_well s Delete h t = All-nil IsCharText
texts_well s (MakeArray kind) h t = All-nil IsCharText
texts_well s MakeStruct h t = All-nil IsCharText
texts_well s (Append text) h t = one_text text h
texts_well s (Insert at text) h t = one_text text h
texts_well s (SetLang tag text) h t = All-cons IsCharText tag (text ∷ []) (tag_chars tag t) (one_text text h)

pub allowed_edit : (line : ℕ) (a : Action) (p : PathParts) → IsAllowedPath p → may_end (last_step p) a ≡ true → has_chars a ≡ true → has_tags (last_step p) a ≡ true →
    length p.steps + levels_of a ≤ 23 → IsAllowed record { line = line; path = p; action = a }
allowed_edit line a p path ends texts tags shallow = record {
  path = path;
  ends = ends_well (last_step p) a ends;
  texts = texts_well (last_step p) a texts tags;
  shallow = omega (arith, shallow);
}

-- what binds has a name and a namespace
changes : {X : Type 0} (f : X → Line) → ((x : X) → IsFormed (f x)) → (o : Option X) → IfSome (option_map f o) IsFormed
changes f each (Some x) = each x
changes f each None = tt

ns_formed : (rest : List ℕ) → IfSome (ns_line rest) IsFormed
ns_formed rest = some_and_then IsFormed (λ t. cond (is_name t.word && not (length t.text == 0)) (Some (lines.Bind t.word t.text)) None) (λ t. by t (is_name t.word) (not (length t.text == 0)) refl refl) (told rest)
  where
    by : (t : Told) (a b : Bool) → is_name t.word ≡ a → not (length t.text == 0) ≡ b → IfSome (cond (a && b) (Some (lines.Bind t.word t.text)) None) IsFormed
    by t true true named some = (named, eqb-false (length t.text) 0 (not-true (length t.text == 0) some))
    by t true false named some = tt
    by t false b named some = tt

lone_formed : (a : Action) (rest : List ℕ) → IfSome (lone_line a rest) IsFormed
lone_formed a rest = some_if IsFormed (is_last_word rest) (Some (lines.Change rest None a)) None tt tt

array_formed : (rest : List ℕ) → IfSome (array_line rest) IsFormed
array_formed rest = some_and_then IsFormed (λ w. option_map (λ kind. lines.Change w.0 None (MakeArray kind)) (kind_of w.1)) (λ w. changes (λ kind. lines.Change w.0 None (MakeArray kind)) (λ kind. tt) (kind_of w.1)) (worded rest)

by_command : (rest : List ℕ) (o : Option Command) → IfSome (formed rest o) IsFormed
by_command rest None = tt
by_command rest (Some commands.Ns) = ns_formed rest
by_command rest (Some commands.Set) = changes (λ (t : Told). lines.Change t.word None (SetText t.text)) (λ t. tt) (told rest)
by_command rest (Some commands.SetUri) = changes (λ (t : Told). lines.Change t.word None (SetUri t.text)) (λ t. tt) (told rest)
by_command rest (Some commands.Delete) = lone_formed Delete rest
by_command rest (Some commands.Array) = array_formed rest
by_command rest (Some commands.Struct) = lone_formed MakeStruct rest
by_command rest (Some commands.Append) = changes (λ (t : Told). lines.Change t.word None (Append t.text)) (λ t. tt) (told rest)
by_command rest (Some commands.Insert) = insert_formed (three rest)
  where
    insert_formed : (o : Option Three) → IfSome (option_and_then (λ t. option_map (λ at. lines.Change t.path None (Insert at t.text)) (place_of_number t.word)) o) IsFormed
    insert_formed (Some t) = changes (λ at. lines.Change t.path None (Insert at t.text)) (λ at. tt) (place_of_number t.word)
    insert_formed None = tt
by_command rest (Some commands.SetLang) = changes (λ (t : Three). lines.Change t.path None (SetLang t.word t.text)) (λ t. tt) (three rest)
by_command rest (Some commands.Qualify) = changes (λ (t : Three). lines.Change t.path (Some t.word) (SetText t.text)) (λ t. tt) (three rest)

pub line_formed : (text : List ℕ) → IfSome (line_of text) IsFormed
line_formed text = some_if IsFormed (is_skipped text) (Some lines.Skip) (commanded (worded text)) tt (by (worded text))
  where
    by : (o : Option (List ℕ × List ℕ)) → IfSome (commanded o) IsFormed
    by None = tt
    by (Some w) = by_command w.1 (command_of w.0)

pub valid_binding : (prefix uri : List ℕ) → is_name prefix ≡ true → (length uri ≡ 0 → ⊥) → is_chars uri ≡ true → (uri ≡ xmlns_space → ⊥) → IsValidHint record { space = uri; prefix = prefix }
valid_binding prefix uri named some chars bound = record {
  spaced = λ e. some (ap length e);
  chars = (is_chars-IsCharText uri).1 chars;
  bound = bound;
  named = (is_name-IsName prefix).1 named;
}

-- a spelling with one qualifier more
spelled_more : (ss : List SpelledStep) (p : Prefixed) → AreSpelledSteps ss → IsName p.local → AreSpelledSteps (ss ++ spelt.Qualifier p ∷ [])
spelled_more [] p h named = (named, tt)
spelled_more (s ∷ ss) p h named = (h.0, spelled_more ss p h.1 named)

pub spelling_names : (path : List ℕ) (q : Option (List ℕ)) → IfSome (spelling_of path q) IsSpelling
spelling_names path None = spelled_names path
spelling_names path (Some name) = by (spelled path) (prefixed name) (spelled_names path) (prefixed_local name)
  where
    by : (o : Option Spelling) (p : Option Prefixed) → IfSome o IsSpelling → IfSome p (λ x. IsName x.local) → IfSome (qualified o p) IsSpelling
    by (Some s) (Some p) h named = record { first = h.first; steps = spelled_more s.steps p h.steps named }
    by (Some s) None h named = tt
    by None p h named = tt
