-- What a token does kind by kind is what its pieces do.
use Rattle.std.proofs.Common.{◌≡◌, ◌≢◌, ℕ, Bool, true, false, not, ◌||◌, List, [], ◌∷◌, ◌++◌, length, Option, Some, None, Ok, Err, refl, sym, ap, ◌∙◌, drop, arith}
use Rattle.std.specs.Prelude.{if◌then◌else◌, is_some, is_none, nat_le, codes}
use Rattle.std.specs.List.{list_any}
use Rattle.std.specs.Str.{bytes_eq}
use Rattle.xmp_values.specs.declared.hints.Hint.{Hint}
use Rattle.xmp_values.specs.declared.rules.Rule.{Rule}
use Rattle.xmp_values.specs.declared.rules.Rule.TheVariants.{Encoding, OutsideRoot, Mismatch, BadNamespace, UnboundPrefix, TwiceAttribute, TooDeep}
use Rattle.xml_grammar.specs.declared.elements.Element.{Element}
use Rattle.xml_grammar.specs.declared.tags.QName.{QName}
use Rattle.xml_grammar.specs.declared.tags.RawAttribute.{RawAttribute}
use Rattle.xml_grammar.specs.declared.tags.Tag.{Tag}
use Rattle.xml_grammar.specs.declared.tokens.Token.{Token}
use Rattle.xml_grammar.specs.declared.tokens.Token.TheVariants as tokens
use Rattle.xml_grammar.specs.Pieces.{Piece, Declaration, Instruction, Comment, Cdata, Start, End, Reference, LineEnd}
use Rattle.xml_grammar.specs.Scopes.{Binding, predeclared, binding_of, binding_at, bindings_of, same_qname, attribute_space, expanded, expanded_attributes, is_misbound}
use Rattle.xml_grammar.specs.Nesting.{Level, is_foreign, has_unbound, has_twice, broken}
use Rattle.xml_grammar.proofs.Splits.{not_both}
use Rattle.xml_grammar.proofs.Parts.{apart}
use Rattle.xml_grammar.proofs.SoundPieces.{neither, same_bytes}
use Rattle.xmp_values.proofs.SameNames.{same_name_is}
use Rattle.xml_grammar.proofs.Repeats.{same_qname_is, same_prefix_is}
use Rattle.xmp_xml.specs.declared.builder.Frame.{Frame}
use Rattle.xmp_xml.specs.declared.builder.Builder.{Builder}
use Rattle.xmp_xml.specs.Building.{is_nil, levels_of, is_rooted, nest_of, passed, with_text, after, within}
use Rattle.xmp_xml.specs.Document.{allowed, piece_step, token_step}
use Rattle.xmp_xml.specs.Tagging.{same_binding, same_attribute, inside_of, tagged, tagged_with}
use Rattle.xmp_xml.specs.Steps.{tag_rule, begun_unless, step_of}

-- ---- the kinds that are no tags

passes_declaration : (first rooted : Bool) (ls : List Level) (e : Option (List ℕ)) → broken (record { first = first; levels = ls; rooted = rooted }) (Declaration e) ≡ (if is_foreign (Declaration e) then Some Encoding else None)
unfolding broken
passes_declaration first rooted [] e = refl
passes_declaration first rooted (l ∷ ls) e = refl

passes_instruction : (first rooted : Bool) (ls : List Level) → broken (record { first = first; levels = ls; rooted = rooted }) Instruction ≡ None
unfolding broken
passes_instruction first rooted [] = refl
passes_instruction first rooted (l ∷ ls) = refl

passes_comment : (first rooted : Bool) (ls : List Level) → broken (record { first = first; levels = ls; rooted = rooted }) Comment ≡ None
unfolding broken
passes_comment first rooted [] = refl
passes_comment first rooted (l ∷ ls) = refl

passes_line : (first rooted : Bool) (ls : List Level) → broken (record { first = first; levels = ls; rooted = rooted }) LineEnd ≡ None
unfolding broken
passes_line first rooted [] = refl
passes_line first rooted (l ∷ ls) = refl

allowed_if : (s : Builder) (at : ℕ) (p : Piece) (b : Bool) (r : Rule) → (if b then Err (r, at) else Ok (after s at p)) ≡ allowed s at p (if b then Some r else None)
allowed_if s at p true r = refl
allowed_if s at p false r = refl

declaration_is : (s : Builder) (at : ℕ) (e : Option (List ℕ)) → step_of s at (tokens.Declaration e) ≡ piece_step s at (Declaration e)
unfolding after
declaration_is s at e = allowed_if s at (Declaration e) (is_foreign (Declaration e)) Encoding ∙ ap (allowed s at (Declaration e)) (sym (passes_declaration s.first (is_rooted s.outer s.root) (levels_of s.top s.outer s.scope) e))

instruction_is : (s : Builder) (at : ℕ) → Ok (passed s) ≡ piece_step s at Instruction
unfolding after
instruction_is s at = ap (allowed s at Instruction) (sym (passes_instruction s.first (is_rooted s.outer s.root) (levels_of s.top s.outer s.scope)))

comment_is : (s : Builder) (at : ℕ) → Ok (passed s) ≡ piece_step s at Comment
unfolding after
comment_is s at = ap (allowed s at Comment) (sym (passes_comment s.first (is_rooted s.outer s.root) (levels_of s.top s.outer s.scope)))

line_is : (s : Builder) (at : ℕ) → Ok (with_text s (0xA ∷ [])) ≡ piece_step s at LineEnd
unfolding after
line_is s at = ap (allowed s at LineEnd) (sym (passes_line s.first (is_rooted s.outer s.root) (levels_of s.top s.outer s.scope)))

cdata_at : (outer : List Frame) (top : Frame) (first : Bool) (text : List ℕ) (root : Option Element) (hints : List Hint) (scope : List Binding) (at : ℕ) (t : List ℕ)
    → step_of (record { first = first; outer = outer; top = top; text = text; root = root; hints = hints; scope = scope }) at (tokens.Cdata t) ≡ piece_step (record { first = first; outer = outer; top = top; text = text; root = root; hints = hints; scope = scope }) at (Cdata t)
unfolding broken after
cdata_at [] top first text root hints scope at t = refl
cdata_at (o ∷ os) top first text root hints scope at t = refl

reference_at : (outer : List Frame) (top : Frame) (first : Bool) (text : List ℕ) (root : Option Element) (hints : List Hint) (scope : List Binding) (at c : ℕ)
    → step_of (record { first = first; outer = outer; top = top; text = text; root = root; hints = hints; scope = scope }) at (tokens.Reference c) ≡ piece_step (record { first = first; outer = outer; top = top; text = text; root = root; hints = hints; scope = scope }) at (Reference c)
unfolding broken after
reference_at [] top first text root hints scope at c = refl
reference_at (o ∷ os) top first text root hints scope at c = refl

end_at : (outer : List Frame) (top : Frame) (first : Bool) (text : List ℕ) (root : Option Element) (hints : List Hint) (scope : List Binding) (at : ℕ) (name : QName)
    → step_of (record { first = first; outer = outer; top = top; text = text; root = root; hints = hints; scope = scope }) at (tokens.End name) ≡ piece_step (record { first = first; outer = outer; top = top; text = text; root = root; hints = hints; scope = scope }) at (End name)
unfolding broken after
end_at [] top first text root hints scope at name = refl
end_at (o ∷ os) top first text root hints scope at name = by (same_qname top.spelled name)
  where
    by : (b : Bool) → (if b then Ok (after (record { first = first; outer = o ∷ os; top = top; text = text; root = root; hints = hints; scope = scope }) at (End name)) else Err (Mismatch, at)) ≡ allowed (record { first = first; outer = o ∷ os; top = top; text = text; root = root; hints = hints; scope = scope }) at (End name) (if not b then Some Mismatch else None)
    by true = refl
    by false = refl

-- ---- a name that is repeated

-- the name under which a prefix is declared
key : Option (List ℕ) → QName
key None = record { prefix = None; local = codes "xmlns" }
key (Some p) = record { prefix = Some (codes "xmlns"); local = p }

key_differs : (p q : Option (List ℕ)) → key p ≡ key q → p ≡ q
unfolding key
key_differs None None e = refl
key_differs None (Some q) e = let bad : None ≡ Some (codes "xmlns") = ap (λ (n : QName). n.prefix) e in absurd cc
key_differs (Some p) None e = let bad : Some (codes "xmlns") ≡ None = ap (λ (n : QName). n.prefix) e in absurd cc
key_differs (Some p) (Some q) e = ap Some (ap (λ (n : QName). n.local) e)

declares : (a : RawAttribute) (b : Binding) → binding_of a ≡ Some b → a.name ≡ key b.prefix
unfolding key
declares a b h = by a.name.prefix a.name.local h
  where
    prefix_is : (x : Binding) → Some x ≡ Some b → x.prefix ≡ b.prefix
    prefix_is x e = let same : x ≡ b = cc in ap (λ (z : Binding). z.prefix) same

    at_none : (local : List ℕ) (t : Bool) → bytes_eq local (codes "xmlns") ≡ t → (if t then Some (record { prefix = None; space = a.value }) else None) ≡ Some b → record { prefix = None; local = local } ≡ key b.prefix
    at_none local true e k = (λ i. record { prefix = None; local = same_bytes local (codes "xmlns") e i }) ∙ ap key (prefix_is (record { prefix = None; space = a.value }) k)
    at_none local false e k = absurd cc

    at_some : (p local : List ℕ) (t : Bool) → bytes_eq p (codes "xmlns") ≡ t → (if t then Some (record { prefix = Some local; space = a.value }) else None) ≡ Some b → record { prefix = Some p; local = local } ≡ key b.prefix
    at_some p local true e k = (λ i. record { prefix = Some (same_bytes p (codes "xmlns") e i); local = local }) ∙ ap key (prefix_is (record { prefix = Some local; space = a.value }) k)
    at_some p local false e k = absurd cc

    by : (prefix : Option (List ℕ)) (local : List ℕ) → binding_at prefix local a.value ≡ Some b → record { prefix = prefix; local = local } ≡ key b.prefix
    by None local k = at_none local (bytes_eq local (codes "xmlns")) refl k
    by (Some p) local k = at_some p local (bytes_eq p (codes "xmlns")) refl k

-- whether an attribute declares goes by its name
none_if : (t : Bool) (x y : Binding) → is_none (if t then Some x else None) ≡ is_none (if t then Some y else None)
none_if true x y = refl
none_if false x y = refl

none_at : (prefix : Option (List ℕ)) (local v w : List ℕ) → is_none (binding_at prefix local v) ≡ is_none (binding_at prefix local w)
none_at None local v w = none_if (bytes_eq local (codes "xmlns")) (record { prefix = None; space = v }) (record { prefix = None; space = w })
none_at (Some p) local v w = none_if (bytes_eq p (codes "xmlns")) (record { prefix = Some local; space = v }) (record { prefix = Some local; space = w })

same_kind : (a y : RawAttribute) → a.name ≡ y.name → is_none (binding_of a) ≡ is_none (binding_of y)
same_kind a y e = none_at a.name.prefix a.name.local a.value y.value ∙ ap (λ (n : QName). is_none (binding_at n.prefix n.local y.value)) e

abbrev same_raw : RawAttribute → RawAttribute → Bool
same_raw a b = same_qname a.name b.name

-- tests that pass together are the same
same_tests : (t u : Bool) → (t ≡ true → u ≡ true) → (u ≡ true → t ≡ true) → t ≡ u
same_tests true true f g = refl
same_tests false false f g = refl
same_tests true false f g = sym (f refl)
same_tests false true f g = g refl

raw_binding : (a y : RawAttribute) (b c : Binding) → binding_of a ≡ Some b → binding_of y ≡ Some c → same_raw a y ≡ same_binding b c
raw_binding a y b c h k = same_tests (same_raw a y) (same_binding b c)
    (λ t. let n = (same_qname_is a.name y.name).0 t in (same_prefix_is b.prefix c.prefix).1 (key_differs b.prefix c.prefix (sym (declares a b h) ∙ n ∙ declares y c k)))
    (λ t. let p = (same_prefix_is b.prefix c.prefix).0 t in (same_qname_is a.name y.name).1 (declares a b h ∙ ap key p ∙ sym (declares y c k)))

raw_other : (a y : RawAttribute) → is_none (binding_of a) ≢ is_none (binding_of y) → same_raw a y ≡ false
raw_other a y differ = apart (same_raw a y) (λ t. differ (same_kind a y ((same_qname_is a.name y.name).0 t)))

-- a declaration is spelled as one of the others where its prefix is declared by them
any_declared : (a : RawAttribute) (b : Binding) (rest : List RawAttribute) → binding_of a ≡ Some b → list_any (same_raw a) rest ≡ list_any (same_binding b) (bindings_of rest)
any_declared a b [] h = refl
any_declared a b (y ∷ rest) h = by (binding_of y) refl (any_declared a b rest h)
  where
    by : (o : Option Binding) → binding_of y ≡ o → list_any (same_raw a) rest ≡ list_any (same_binding b) (bindings_of rest) → (same_raw a y || list_any (same_raw a) rest) ≡ list_any (same_binding b) (bindings_of (y ∷ rest))
    by None e more =
        let differ : is_none (binding_of a) ≢ is_none (binding_of y) = λ same. let bad : false ≡ true = sym (ap is_none h) ∙ same ∙ ap is_none e in cc in
        rw (raw_other a y differ) (more ∙ rw e refl)
    by (Some c) e more = (λ i. raw_binding a y b c h e i || more i) ∙ rw e refl

-- an attribute that is spelled as another has the same expanded name
any_plain : (bs : List Binding) (a : RawAttribute) (rest : List RawAttribute) → binding_of a ≡ None
    → list_any (same_attribute (expanded bs a)) (expanded_attributes bs rest) ≡ false → list_any (same_raw a) rest ≡ false
any_plain bs a [] h e = refl
any_plain bs a (y ∷ rest) h e = by (binding_of y) refl (any_plain bs a rest h)
  where
    by : (o : Option Binding) → binding_of y ≡ o → (list_any (same_attribute (expanded bs a)) (expanded_attributes bs rest) ≡ false → list_any (same_raw a) rest ≡ false) → (same_raw a y || list_any (same_raw a) rest) ≡ false
    by (Some c) k more =
        let differ : is_none (binding_of a) ≢ is_none (binding_of y) = λ same. let bad : true ≡ false = sym (ap is_none h) ∙ same ∙ ap is_none k in cc in
        let e' : list_any (same_attribute (expanded bs a)) (expanded_attributes bs rest) ≡ false = rw k at e in
        rw (raw_other a y differ) (more e')
    by None k more =
        let e' : list_any (same_attribute (expanded bs a)) (expanded bs y ∷ expanded_attributes bs rest) ≡ false = rw k at e in
        let n = neither (same_attribute (expanded bs a) (expanded bs y)) (list_any (same_attribute (expanded bs a)) (expanded_attributes bs rest)) e' in
        let one : same_raw a y ≡ false = apart (same_raw a y) (λ t.
        let names = (same_qname_is a.name y.name).0 t in
        let same : (expanded bs a).name ≡ (expanded bs y).name = ap (λ (q : QName). record { space = attribute_space bs q.prefix; local = q.local }) names in
        not_both (same_attribute (expanded bs a) (expanded bs y)) ((same_name_is (expanded bs a).name (expanded bs y).name).1 same) n.0) in
        rw one (more n.1)

repeats_is : (bs : List Binding) (xs : List RawAttribute) → has_twice same_attribute (expanded_attributes bs xs) ≡ false → has_twice same_raw xs ≡ has_twice same_binding (bindings_of xs)
repeats_is bs [] e = refl
repeats_is bs (a ∷ rest) e = by (binding_of a) refl (repeats_is bs rest)
  where
    by : (o : Option Binding) → binding_of a ≡ o → (has_twice same_attribute (expanded_attributes bs rest) ≡ false → has_twice same_raw rest ≡ has_twice same_binding (bindings_of rest))
        → (list_any (same_raw a) rest || has_twice same_raw rest) ≡ has_twice same_binding (bindings_of (a ∷ rest))
    by (Some b) k more =
        let e' : has_twice same_attribute (expanded_attributes bs rest) ≡ false = rw k at e in
        (λ i. any_declared a b rest k i || more e' i) ∙ rw k refl
    by None k more =
        let e' : has_twice same_attribute (expanded bs a ∷ expanded_attributes bs rest) ≡ false = rw k at e in
        let n = neither (list_any (same_attribute (expanded bs a)) (expanded_attributes bs rest)) (has_twice same_attribute (expanded_attributes bs rest)) e' in
        rw (any_plain bs a rest k n.0) (more n.1 ∙ rw k refl)

twice_is : (bs : List Binding) (xs : List RawAttribute)
    → (has_twice same_binding (bindings_of xs) || has_twice same_attribute (expanded_attributes bs xs)) ≡ (has_twice same_raw xs || has_twice same_attribute (expanded_attributes bs xs))
twice_is bs xs = by (has_twice same_attribute (expanded_attributes bs xs)) refl
  where
    or_true : (b : Bool) → (b || true) ≡ true
    or_true true = refl
    or_true false = refl

    by : (t : Bool) → has_twice same_attribute (expanded_attributes bs xs) ≡ t → (has_twice same_binding (bindings_of xs) || t) ≡ (has_twice same_raw xs || t)
    by true e = or_true (has_twice same_binding (bindings_of xs)) ∙ sym (or_true (has_twice same_raw xs))
    by false e = ap (λ (b : Bool). b || false) (sym (repeats_is bs xs e))

-- ---- tags

depth_is : (f : Frame) (os : List Frame) (scope : List Binding) → length (levels_of f os scope) ≡ length os
depth_is f [] scope = refl
depth_is f (o ∷ os) scope = omega (arith, depth_is o os (drop f.declared scope))

abbrev chain : Bool → Bool → Bool → Bool → Bool → Option Rule
chain a b c d e = if a then Some OutsideRoot else if b then Some BadNamespace else if c then Some UnboundPrefix else if d then Some TwiceAttribute else if e then Some TooDeep else None

rule_at : (outer : List Frame) (top : Frame) (first : Bool) (text : List ℕ) (root : Option Element) (hints : List Hint) (scope : List Binding) (at : ℕ) (tag : Tag)
    → tag_rule (is_nil outer) (is_some root) (length outer) (tagged (record { first = first; outer = outer; top = top; text = text; root = root; hints = hints; scope = scope }) at tag)
    ≡ broken (nest_of (record { first = first; outer = outer; top = top; text = text; root = root; hints = hints; scope = scope })) (Start tag)
unfolding broken
rule_at [] top first text root hints scope at tag = by root
  where
    by : (r : Option Element) → tag_rule true (is_some r) 0 (tagged_with (bindings_of tag.attributes ++ predeclared) at tag) ≡ broken (record { first = first; levels = []; rooted = is_some r }) (Start tag)
    by (Some e) = refl
    by None = ap (λ (t : Bool). chain false (list_any is_misbound (bindings_of tag.attributes)) (has_unbound (bindings_of tag.attributes ++ predeclared) tag) t (nat_le 100 0)) (twice_is (bindings_of tag.attributes ++ predeclared) tag.attributes)
rule_at (o ∷ os) top first text root hints scope at tag =
    let bound : List Binding = bindings_of tag.attributes ++ scope in
    λ i. chain false (list_any is_misbound (bindings_of tag.attributes)) (has_unbound bound tag) (twice_is bound tag.attributes i) (nat_le 100 (sym (depth_is top (o ∷ os) scope) i))

start_at : (s : Builder) (at : ℕ) (tag : Tag) (o : Option Rule) → begun_unless (within s (inside_of s tag)) at (tagged s at tag) o ≡ allowed s at (Start tag) o
unfolding after
start_at s at tag None = refl
start_at s at tag (Some r) = refl

start_is : (s : Builder) (at : ℕ) (tag : Tag) → step_of s at (tokens.Start tag) ≡ piece_step s at (Start tag)
start_is s at tag =
    ap (begun_unless (within s (inside_of s tag)) at (tagged s at tag)) (rule_at s.outer s.top s.first s.text s.root s.hints s.scope at tag)
    ∙ start_at s at tag (broken (nest_of s) (Start tag))

-- ---- all kinds

pub step_is : (s : Builder) (at : ℕ) (token : Token) → step_of s at token ≡ token_step s at token
step_is s at (tokens.Declaration encoding) = declaration_is s at encoding
step_is s at tokens.Instruction = instruction_is s at
step_is s at tokens.Comment = comment_is s at
step_is s at (tokens.Cdata text) = cdata_at s.outer s.top s.first s.text s.root s.hints s.scope at text
step_is s at (tokens.Start tag) = start_is s at tag
step_is s at (tokens.End name) = end_at s.outer s.top s.first s.text s.root s.hints s.scope at name
step_is s at (tokens.Reference c) = reference_at s.outer s.top s.first s.text s.root s.hints s.scope at c
step_is s at tokens.LineEnd = line_is s at
step_is s at (tokens.Run text) = refl
