-- What a piece, and a run of them, does to a builder.
use Rattle.std.proofs.Common.{◌≡◌, ℕ, ◌+◌, ◌-◌, length, Bool, true, false, cond, not, ◌&&◌, List, [], ◌∷◌, ◌++◌, map, Option, Some, None, refl, sym, ap, subst, ◌∙◌, append_assoc, append-nil, drop}
use Rattle.std.specs.Prelude.{chars, encode_utf8, encode_utf8_all}
use Rattle.std.proofs.Math.Seq.{drop-append_seam}
use Rattle.std.specs.List.{filter_map}
use Rattle.std.specs.Str.{IsUtf8}
use Rattle.xmp_values.specs.declared.hints.Hint.{Hint}
use Rattle.xml_grammar.specs.declared.elements.Child.{Child}
use Rattle.xml_grammar.specs.declared.elements.Child.TheVariants as child
use Rattle.xml_grammar.specs.declared.elements.Element.{Element}
use Rattle.xml_grammar.specs.declared.tags.QName.{QName}
use Rattle.xml_grammar.specs.declared.tags.Tag.{Tag}
use Rattle.xml_grammar.specs.Pieces.{Piece, Declaration, Instruction, Comment, Cdata, Start, End, Reference, LineEnd, Character, Stands}
use Rattle.xml_tokenizer.specs.Rows.{StandsRow}
use Rattle.xml_grammar.specs.Scopes.{Binding, bindings_of, element_name, expanded_attributes}
use Rattle.xml_grammar.specs.Nesting as nesting
use Rattle.xml_grammar.specs.Nesting.{Level, Nest, bound_in, bound_at, enter, is_outside, broken, mode_of}
use Rattle.xml_grammar.specs.Trees.{Event, Opens, Words, Closes, joined, events, put, put_inside, closing, piece_events, hint_of, piece_hints, Placed, events_of, all_hints}
use Rattle.xml_grammar.specs.Documents.{width, mark_width, after_mark, Reads, Begins, nest_after}
use Rattle.xml_grammar.proofs.TreeEvents.{element_is, text_is}
use Rattle.xml_grammar.proofs.Rows.{put_inside-append, reads_append, reads_one, nest-append}
use Rattle.xml_tokenizer.proofs.RunPieces.{placed_run, after_run, run_nest, IsRunFree, run_reads, run_events}
use Rattle.xml_grammar.proofs.Scoping.{all_hints-append}
use Rattle.xml_grammar.proofs.Unbroken.{unbroken}
use Rattle.xmp_xml.specs.declared.builder.Frame.{Frame}
use Rattle.xmp_xml.specs.declared.builder.Builder.{Builder}
use Rattle.xmp_xml.specs.Building.{is_nil, bound_of, levels_of, is_rooted, nest_of, element, with_child, texted, passed, with_text, frame, opened, popped, closed, closed_if, after}
use Rattle.xmp_xml.proofs.Reached.{inside, frames, before, shown, IsQuiet, Reached}
use Rattle.xmp_xml.proofs.Starts.{place_from}

-- ---- the builder's nest is the nest of the pieces

levels_child : (f : Frame) (c : Child) (os : List Frame) (scope : List Binding) → levels_of (with_child f c) os scope ≡ levels_of f os scope
levels_child f c [] scope = refl
levels_child f c (o ∷ os) scope = refl

levels_texted : (f : Frame) (t : List ℕ) (os : List Frame) (scope : List Binding) → levels_of (texted f t) os scope ≡ levels_of f os scope
levels_texted f [] os scope = refl
levels_texted f (b ∷ bs) os scope = levels_child f (child.Text (b ∷ bs)) os scope

declared_texted : (f : Frame) (t : List ℕ) → (texted f t).declared ≡ f.declared
declared_texted f [] = refl
declared_texted f (b ∷ bs) = refl

bound_levels : (f : Frame) (os : List Frame) (scope : List Binding) → bound_in (levels_of f os scope) ≡ bound_of os scope
bound_levels f [] scope = refl
bound_levels f (o ∷ os) scope = refl

abbrev nest : List Level → Bool → Nest
nest levels rooted = record { first = false; levels = levels; rooted = rooted }

pub text_nest : (s : Builder) (t : List ℕ) → nest_of (with_text s t) ≡ nest (levels_of s.top s.outer s.scope) (is_rooted s.outer s.root)
text_nest s t = by_outside (is_nil s.outer)
  where
    by_outside : (v : Bool) → nest_of (cond v (passed s) (record { first = false; outer = s.outer; top = s.top; text = s.text ++ t; root = s.root; hints = s.hints; scope = s.scope })) ≡ nest (levels_of s.top s.outer s.scope) (is_rooted s.outer s.root)
    by_outside true = refl
    by_outside false = refl

tag_nest : (s : Builder) (at : ℕ) (tag : Tag) → nest_of (closed_if tag.empty (opened s at tag)) ≡ enter (nest_of s) (Start tag)
tag_nest s at tag = by_empty tag.empty
  where
    own : List Binding
    own = bindings_of tag.attributes

    inside : List Binding
    inside = own ++ bound_of s.outer s.scope

    -- the scope around the tag is what its declarations leave
    around : (os : List Frame) → levels_of s.top os (drop (length own) (own ++ bound_of os s.scope)) ≡ levels_of s.top os s.scope
    around [] = refl
    around (o ∷ os) = ap (levels_of s.top (o ∷ os)) (drop-append_seam own s.scope)

    entered : (os : List Frame) (f : Frame) (hints : List Hint) → f.declared ≡ length own
        → nest_of (popped (texted s.top s.text ∷ os) f s.root hints (own ++ bound_of os s.scope)) ≡ nest (levels_of s.top os s.scope) true
    entered [] f hints n = refl
    entered (o ∷ os) f hints n =
        ap (λ (ls : List Level). nest ls true)
        (levels_child (texted s.top s.text) (child.Element (element f)) (o ∷ os) (drop f.declared (own ++ s.scope))
        ∙ levels_texted s.top s.text (o ∷ os) (drop f.declared (own ++ s.scope))
        ∙ ap (λ (k : ℕ). levels_of s.top (o ∷ os) (drop k (own ++ s.scope))) n
        ∙ around (o ∷ os))

    by_empty : (e : Bool) → nest_of (closed_if e (opened s at tag)) ≡ nest (nesting.opened e (record { name = tag.name; bound = bound_at (nest_of s) tag }) (levels_of s.top s.outer s.scope)) true
    by_empty true = entered s.outer (texted (frame at tag inside) []) (s.hints ++ filter_map hint_of own) refl
    by_empty false =
        ap (λ (bound : List Binding). nest (record { name = tag.name; bound = own ++ bound } ∷ levels_of (texted s.top s.text) s.outer (drop (length own) inside)) true) (sym (bound_levels s.top s.outer s.scope))
        ∙ ap (λ (ls : List Level). nest (record { name = tag.name; bound = bound_at (nest_of s) tag } ∷ ls) true) (levels_texted s.top s.text s.outer (drop (length own) inside) ∙ around s.outer)

end_nest : (s : Builder) (name : QName) → nest_of (closed s) ≡ enter (nest_of s) (End name)
end_nest s name = ended s.outer
  where
    ended : (os : List Frame) → nest_of (popped os (texted s.top s.text) s.root s.hints s.scope) ≡ nest (nesting.outer (levels_of s.top os s.scope)) (is_rooted os s.root)
    ended [] = refl
    ended (o ∷ []) = refl
    ended (o ∷ q ∷ os) =
        ap (λ (ls : List Level). nest ls true)
        (levels_child o (child.Element (element (texted s.top s.text))) (q ∷ os) (drop (texted s.top s.text).declared s.scope)
        ∙ ap (λ (k : ℕ). levels_of o (q ∷ os) (drop k s.scope)) (declared_texted s.top s.text))

pub after_nest : (s : Builder) (at : ℕ) (p : Piece) → nest_of (after s at p) ≡ enter (nest_of s) p
unfolding after
after_nest s at (Declaration encoding) = refl
after_nest s at Instruction = refl
after_nest s at Comment = refl
after_nest s at (Cdata t) = text_nest s t
after_nest s at (Start tag) = tag_nest s at tag
after_nest s at (End name) = end_nest s name
after_nest s at (Reference c) = text_nest s (encode_utf8 c)
after_nest s at LineEnd = text_nest s (0xA ∷ [])
after_nest s at (Character c) = text_nest s (encode_utf8 c)

-- ---- hints

text_hints : (s : Builder) (t : List ℕ) → (with_text s t).hints ≡ s.hints
text_hints s t = by_outside (is_nil s.outer)
  where
    by_outside : (v : Bool) → (cond v (passed s) (record { first = false; outer = s.outer; top = s.top; text = s.text ++ t; root = s.root; hints = s.hints; scope = s.scope })).hints ≡ s.hints
    by_outside true = refl
    by_outside false = refl

popped_hints : (os : List Frame) (f : Frame) (root : Option Element) (hints : List Hint) (scope : List Binding) → (popped os f root hints scope).hints ≡ hints
popped_hints [] f root hints scope = refl
popped_hints (o ∷ []) f root hints scope = refl
popped_hints (o ∷ q ∷ os) f root hints scope = refl

tag_hints : (s : Builder) (at : ℕ) (tag : Tag) → (closed_if tag.empty (opened s at tag)).hints ≡ s.hints ++ piece_hints (Start tag)
tag_hints s at tag = by_empty tag.empty
  where
    by_empty : (e : Bool) → (closed_if e (opened s at tag)).hints ≡ s.hints ++ piece_hints (Start tag)
    by_empty true = popped_hints (opened s at tag).outer (texted (opened s at tag).top []) s.root (s.hints ++ piece_hints (Start tag)) (opened s at tag).scope
    by_empty false = refl

pub after_hints : (s : Builder) (at : ℕ) (p : Piece) → (after s at p).hints ≡ s.hints ++ piece_hints p
unfolding after
after_hints s at (Declaration encoding) = sym (append-nil s.hints)
after_hints s at Instruction = sym (append-nil s.hints)
after_hints s at Comment = sym (append-nil s.hints)
after_hints s at (Cdata t) = text_hints s t ∙ sym (append-nil s.hints)
after_hints s at (Start tag) = tag_hints s at tag
after_hints s at (End name) = popped_hints s.outer (texted s.top s.text) s.root s.hints s.scope ∙ sym (append-nil s.hints)
after_hints s at (Reference c) = text_hints s (encode_utf8 c) ∙ sym (append-nil s.hints)
after_hints s at LineEnd = text_hints s (0xA ∷ []) ∙ sym (append-nil s.hints)
after_hints s at (Character c) = text_hints s (encode_utf8 c) ∙ sym (append-nil s.hints)

-- ---- what the builder holds

joined_push : (cs : List Child) (c : Child) (es : List Event) → joined (map events (cs ++ c ∷ [])) ++ es ≡ joined (map events cs) ++ (events c ++ es)
joined_push [] c es = ap (λ (x : List Event). x ++ es) (append-nil (events c))
joined_push (d ∷ ds) c es =
    append_assoc (events d) (joined (map events (ds ++ c ∷ []))) es
    ∙ ap (λ (x : List Event). events d ++ x) (joined_push ds c es)
    ∙ sym (append_assoc (events d) (joined (map events ds)) (events c ++ es))

element_shown : (f : Frame) (es : List Event) → events (child.Element (element f)) ++ es ≡ Opens f.at f.name f.attributes ∷ inside f (Closes ∷ es)
element_shown f es =
    ap (λ (x : List Event). x ++ es) (element_is f.at f.name f.attributes f.children)
    ∙ ap (λ (x : List Event). Opens f.at f.name f.attributes ∷ x) (append_assoc (joined (map events f.children)) (Closes ∷ []) es)

-- what begins with no text
abbrev IsMark : List Event → Type 0
IsMark es = (b : ℕ) (bs : List ℕ) → put (b ∷ bs) es ≡ Words (b ∷ bs) ∷ es

-- the pending text is a child
frames_texted : (os : List Frame) (f : Frame) (t : List ℕ) (root : Option Element) (es : List Event) → IsMark es → IsQuiet os t root → frames os f (put t es) ≡ frames os (texted f t) es
frames_texted os f [] root es m q = refl
frames_texted [] f (b ∷ bs) root es m q = absurd cc
frames_texted (o ∷ os) f (b ∷ bs) root es m q =
    let push : inside (texted f (b ∷ bs)) es ≡ inside f (put (b ∷ bs) es) =
    joined_push f.children (child.Text (b ∷ bs)) es ∙ ap (λ (x : List Event). inside f (x ++ es)) (text_is (b ∷ bs)) ∙ ap (inside f) (sym (m b bs)) in
    ap (λ (x : List Event). frames os o (Opens f.at f.name f.attributes ∷ x)) (sym push)

-- the innermost element ends
closed_shown : (os : List Frame) (f : Frame) (root : Option Element) (hints : List Hint) (scope : List Binding) (es : List Event) → (os ≡ [] → ⊥) → root ≡ None → before root (frames os f (Closes ∷ es)) ≡ shown (popped os f root hints scope) es
closed_shown [] f root hints scope es full none = absurd (full refl)
closed_shown (document ∷ []) f root hints scope es full none = rw none (sym (element_shown f es))
closed_shown (parent ∷ o ∷ os) f root hints scope es full none =
    let push : inside (with_child parent (child.Element (element f))) es ≡ inside parent (Opens f.at f.name f.attributes ∷ inside f (Closes ∷ es)) =
    joined_push parent.children (child.Element (element f)) es ∙ ap (inside parent) (element_shown f es) in
    ap (λ (x : List Event). before root (frames os o (Opens parent.at parent.name parent.attributes ∷ x))) (sym push)

abbrev pub Quiet : Builder → Type 0
Quiet s = IsQuiet s.outer s.text s.root

closed_quiet : (os : List Frame) (f : Frame) (root : Option Element) (hints : List Hint) (scope : List Binding) → root ≡ None → Quiet (popped os f root hints scope)
closed_quiet [] f root hints scope none = refl
closed_quiet (document ∷ []) f root hints scope none = refl
closed_quiet (parent ∷ o ∷ os) f root hints scope none = none

-- a tag may not stand after the root
no_root : (s : Builder) (tag : Tag) → Quiet s → broken (nest_of s) (Start tag) ≡ None → s.root ≡ None
no_root s tag quiet good = by_outer s.outer s.root quiet (unbroken (nest_of s) (Start tag) good).placed
  where
    by_outer : (outer : List Frame) (root : Option Element) → IsQuiet outer s.text root → (is_outside (levels_of s.top outer s.scope) && not (not (is_rooted outer root))) ≡ false → root ≡ None
    by_outer [] None q e = refl
    by_outer [] (Some x) q e = absurd cc
    by_outer (o ∷ os) root q e = q

-- ---- text

pub text_shown : (s : Builder) (t : List ℕ) (es : List Event) → shown s (put_inside (levels_of s.top s.outer s.scope) t es) ≡ shown (with_text s t) es
text_shown s t es = by_outer s.outer
  where
    by_outer : (outer : List Frame) → before s.root (frames outer s.top (put s.text (put_inside (levels_of s.top outer s.scope) t es)))
        ≡ shown (cond (is_nil outer) (record { first = false; outer = outer; top = s.top; text = s.text; root = s.root; hints = s.hints; scope = s.scope }) (record { first = false; outer = outer; top = s.top; text = s.text ++ t; root = s.root; hints = s.hints; scope = s.scope })) es
    by_outer [] = refl
    by_outer (o ∷ os) = ap (λ (x : List Event). before s.root (frames (o ∷ os) s.top x)) (put_inside-append (levels_of s.top (o ∷ os) s.scope) s.text t es)

pub text_quiet : (s : Builder) (t : List ℕ) → Quiet s → Quiet (with_text s t)
text_quiet s t q = by_outer s.outer q
  where
    by_outer : (outer : List Frame) → IsQuiet outer s.text s.root
        → Quiet (cond (is_nil outer) (record { first = false; outer = outer; top = s.top; text = s.text; root = s.root; hints = s.hints; scope = s.scope }) (record { first = false; outer = outer; top = s.top; text = s.text ++ t; root = s.root; hints = s.hints; scope = s.scope }))
    by_outer [] q = q
    by_outer (o ∷ os) q = q

-- ---- tags

abbrev begun : ℕ → Tag → List Event → List Binding → List Event
begun at tag es bound = Opens at (element_name bound tag.name) (expanded_attributes bound tag.attributes) ∷ closing tag.empty es

tag_shown : (s : Builder) (at : ℕ) (tag : Tag) (es : List Event) → Quiet s → broken (nest_of s) (Start tag) ≡ None → shown s (piece_events (nest_of s) (at, Start tag) es) ≡ shown (closed_if tag.empty (opened s at tag)) es
tag_shown s at tag es q good =
    ap (λ (bound : List Binding). before s.root (frames s.outer s.top (put s.text (begun at tag es (bindings_of tag.attributes ++ bound))))) (bound_levels s.top s.outer s.scope)
    ∙ ap (before s.root) (frames_texted s.outer s.top s.text s.root (begun at tag es (bindings_of tag.attributes ++ bound_of s.outer s.scope)) (λ b bs. refl) q)
    ∙ by_empty tag.empty
  where
    by_empty : (e : Bool) → before s.root (frames (opened s at tag).outer (opened s at tag).top (closing e es)) ≡ shown (closed_if e (opened s at tag)) es
    by_empty true = closed_shown (opened s at tag).outer (opened s at tag).top s.root (opened s at tag).hints (opened s at tag).scope es (λ e. cc) (no_root s tag q good)
    by_empty false = refl

tag_quiet : (s : Builder) (at : ℕ) (tag : Tag) → Quiet s → broken (nest_of s) (Start tag) ≡ None → Quiet (closed_if tag.empty (opened s at tag))
tag_quiet s at tag q good = by_empty tag.empty
  where
    by_empty : (e : Bool) → Quiet (closed_if e (opened s at tag))
    by_empty true = closed_quiet (opened s at tag).outer (opened s at tag).top s.root (opened s at tag).hints (opened s at tag).scope (no_root s tag q good)
    by_empty false = no_root s tag q good

-- an end tag stands inside an element
is_open : (s : Builder) (name : QName) → Quiet s → broken (nest_of s) (End name) ≡ None → (s.outer ≡ [] → ⊥) × (s.root ≡ None)
is_open s name quiet good = by_outer s.outer quiet (unbroken (nest_of s) (End name) good).placed
  where
    by_outer : (outer : List Frame) → IsQuiet outer s.text s.root → (is_outside (levels_of s.top outer s.scope) && true) ≡ false → (outer ≡ [] → ⊥) × (s.root ≡ None)
    by_outer [] q e = absurd cc
    by_outer (o ∷ os) q e = ((λ h. cc), q)

end_shown : (s : Builder) (name : QName) (es : List Event) → Quiet s → broken (nest_of s) (End name) ≡ None → shown s (Closes ∷ es) ≡ shown (closed s) es
end_shown s name es q good =
    let k = is_open s name q good in
    ap (before s.root) (frames_texted s.outer s.top s.text s.root (Closes ∷ es) (λ b bs. refl) q) ∙ closed_shown s.outer (texted s.top s.text) s.root s.hints s.scope es k.0 k.1

-- ---- one piece

pub shown_at : (s : Builder) (at : ℕ) (p : Piece) (es : List Event) → Quiet s → broken (nest_of s) p ≡ None → shown s (piece_events (nest_of s) (at, p) es) ≡ shown (after s at p) es
unfolding after
shown_at s at (Declaration encoding) es q good = refl
shown_at s at Instruction es q good = refl
shown_at s at Comment es q good = refl
shown_at s at (Cdata t) es q good = text_shown s t es
shown_at s at (Start tag) es q good = tag_shown s at tag es q good
shown_at s at (End name) es q good = end_shown s name es q good
shown_at s at (Reference c) es q good = text_shown s (encode_utf8 c) es
shown_at s at LineEnd es q good = text_shown s (0xA ∷ []) es
shown_at s at (Character c) es q good = text_shown s (encode_utf8 c) es

pub quiet_at : (s : Builder) (at : ℕ) (p : Piece) → Quiet s → broken (nest_of s) p ≡ None → Quiet (after s at p)
unfolding after
quiet_at s at (Declaration encoding) q good = q
quiet_at s at Instruction q good = q
quiet_at s at Comment q good = q
quiet_at s at (Cdata t) q good = text_quiet s t q
quiet_at s at (Start tag) q good = tag_quiet s at tag q good
quiet_at s at (End name) q good = closed_quiet s.outer (texted s.top s.text) s.root s.hints s.scope (is_open s name q good).1
quiet_at s at (Reference c) q good = text_quiet s (encode_utf8 c) q
quiet_at s at LineEnd q good = text_quiet s (0xA ∷ []) q
quiet_at s at (Character c) q good = text_quiet s (encode_utf8 c) q

-- ---- one piece further

pub piece_reached : (text cs front back : List ℕ) (s : Builder) (p : Piece) → IsUtf8 text → Reached text s cs → cs ≡ front ++ back → Stands (mode_of (nest_of s)) p front back → broken (nest_of s) p ≡ None
    → Reached text (after s (length text - width cs) p) back
piece_reached text cs front back s p u r is stands good =
    let at : ℕ = length text - width cs in
    let next : Builder = after s at p in
    let one : List Placed = (at, p) ∷ [] in
    record {
      pieces = r.pieces ++ one;
      read = reads_one nesting.start (mark_width (chars text)) at r.pieces p (after_mark (chars text)) front back
          (subst (λ (z : List ℕ). Reads nesting.start (mark_width (chars text)) r.pieces (after_mark (chars text)) z) is r.read)
          (subst (λ (z : Nest). Stands (mode_of z) p front back) r.nest stands)
          (subst (λ (z : Nest). broken z p ≡ None) r.nest good)
          (ap (λ (z : List ℕ). at + width z) (sym is) ∙ place_from text cs r.pieces u r.read);
      nest = after_nest s at p ∙ ap (λ (z : Nest). enter z p) r.nest ∙ sym (nest-append nesting.start r.pieces one);
      hinted = after_hints s at p ∙ ap (λ (hs : List Hint). hs ++ piece_hints p) r.hinted ∙ ap (λ (hs : List Hint). all_hints r.pieces ++ hs) (sym (append-nil (piece_hints p))) ∙ sym (all_hints-append r.pieces one);
      quiet = quiet_at s at p r.quiet good;
      shows = λ more.
          ap (events_of nesting.start) (append_assoc r.pieces one more)
          ∙ r.shows ((at, p) ∷ more)
          ∙ shown_at s at p (events_of (enter (nest_of s) p) more) r.quiet good
          ∙ ap (λ (z : Nest). shown next (events_of z more)) (sym (after_nest s at p));
    }

-- ---- a run further

run_hints : (at : ℕ) (cs : List ℕ) → all_hints (placed_run at cs) ≡ []
run_hints at [] = refl
run_hints at (c ∷ cs) = run_hints (at + width (c ∷ [])) cs

-- a run that breaks no rule goes on from where pieces end
pub run_begins : (text cs left run : List ℕ) (s : Builder) → IsUtf8 text → (r : Reached text s cs) → StandsRow (mode_of (nest_of s)) (map Character run) cs left → IsRunFree (nest_of s) run
    → Begins text (r.pieces ++ placed_run (length text - width cs) run) left
run_begins text cs left run s u r row free =
    let at : ℕ = length text - width cs in
    reads_append nesting.start (mark_width (chars text)) at r.pieces (placed_run at run) (after_mark (chars text)) cs left r.read
    (run_reads (nest_after nesting.start r.pieces) at run cs left (subst (λ (z : Nest). StandsRow (mode_of z) (map Character run) cs left) r.nest row) (subst (λ (z : Nest). IsRunFree z run) r.nest free))
    (place_from text cs r.pieces u r.read)

-- the nest after it
pub run_nested : (text cs run : List ℕ) (s : Builder) (r : Reached text s cs) (at : ℕ) → after_run (nest_of s) run ≡ nest_after nesting.start (r.pieces ++ placed_run at run)
run_nested text cs run s r at =
    ap (λ (z : Nest). after_run z run) r.nest ∙ sym (run_nest (nest_after nesting.start r.pieces) at run) ∙ sym (nest-append nesting.start r.pieces (placed_run at run))

pub run_reached : (text cs left : List ℕ) (s : Builder) (c : ℕ) (run : List ℕ) → IsUtf8 text → Reached text s cs → StandsRow (mode_of (nest_of s)) (map Character (c ∷ run)) cs left → IsRunFree (nest_of s) (c ∷ run)
    → Reached text (with_text s (encode_utf8_all (c ∷ run))) left
run_reached text cs left s c run u r row free =
    let at : ℕ = length text - width cs in
    let t : List ℕ = encode_utf8_all (c ∷ run) in
    let placed : List Placed = placed_run at (c ∷ run) in
    record {
      pieces = r.pieces ++ placed;
      read = run_begins text cs left (c ∷ run) s u r row free;
      nest = text_nest s t ∙ run_nested text cs (c ∷ run) s r at;
      hinted = text_hints s t ∙ r.hinted ∙ sym (append-nil (all_hints r.pieces)) ∙ ap (λ (hs : List Hint). all_hints r.pieces ++ hs) (sym (run_hints at (c ∷ run))) ∙ sym (all_hints-append r.pieces placed);
      quiet = text_quiet s t r.quiet;
      shows = λ more.
          ap (events_of nesting.start) (append_assoc r.pieces placed more)
          ∙ r.shows (placed ++ more)
          ∙ ap (shown s) (run_events (nest_of s) at (c ∷ run) more)
          ∙ text_shown s t (events_of (after_run (nest_of s) (c ∷ run)) more)
          ∙ ap (λ (z : Nest). shown (with_text s t) (events_of z more)) (sym (text_nest s t));
    }
