-- The first hint of each namespace, one by one, and the hints with a mark.
use Rattle.std.proofs.Common.{◌≡◌, ℕ, length, Bool, true, false, not, ◌||◌, List, [], ◌∷◌, ◌++◌, refl, sym, ap, ◌∙◌, append_assoc, arith}
use Rattle.std.proofs.Math.Bool.{not-not}
use Rattle.std.specs.Prelude.{if◌then◌else◌}
use Rattle.std.specs.List.{list_any}
use Rattle.std.specs.Str.{bytes_eq}
use Rattle.std.proofs.lemmas.List.Folds.{list_any-append}
use Rattle.xmp_values.specs.declared.hints.Hint.{Hint}
use Rattle.xmp_values.specs.Texts.{with_text}
use Rattle.xmp_values.proofs.TextPlaces.{bytes_eq-sym, list_any-with_text}
use Rattle.xml_grammar.specs.Trees.{first_hints}
use Rattle.xml_grammar.proofs.Scoping.{knows, knows-first, first_hints-push}
use Rattle.xmp_xml.specs.Marks.{first_mark, later_marks, marked}

-- the set holds the namespaces of these hints
abbrev pub Sees : List (List ℕ) → List Hint → Type 0
Sees seen hs = (space : List ℕ) → list_any (bytes_eq space) seen ≡ knows space hs

pub sees_none : Sees [] []
sees_none space = refl

-- one hint more
pub sees_more : (old new : List (List ℕ)) (hs : List Hint) (h : Hint) (text : List ℕ) → text ≡ h.space → Sees old hs → new ≡ with_text old text → Sees new (hs ++ h ∷ [])
sees_more old new hs h text is has put space =
    ap (list_any (bytes_eq space)) put ∙ list_any-with_text old text space
    ∙ (λ i. has space i || (bytes_eq space (is i) || false))
    ∙ ap (λ (b : Bool). knows space hs || (b || false)) (bytes_eq-sym space h.space)
    ∙ sym (list_any-append (λ (g : Hint). bytes_eq g.space space) hs (h ∷ []))

pub first_more : (seen : List (List ℕ)) (hs firsts : List Hint) (h : Hint) (text : List ℕ) (is_new : Bool) → text ≡ h.space → Sees seen hs → firsts ≡ first_hints hs
    → is_new ≡ not (list_any (bytes_eq text) seen) → (if is_new then firsts ++ h ∷ [] else firsts) ≡ first_hints (hs ++ h ∷ [])
first_more seen hs firsts h text is_new is has firsts_are new = by is_new new
  where
    known : knows h.space (first_hints hs) ≡ list_any (bytes_eq text) seen
    known = knows-first h.space hs ∙ sym (has h.space) ∙ ap (λ (t : List ℕ). list_any (bytes_eq t) seen) (sym is)

    by : (b : Bool) → b ≡ not (list_any (bytes_eq text) seen) → (if b then firsts ++ h ∷ [] else firsts) ≡ first_hints (hs ++ h ∷ [])
    by true e =
        let unknown : knows h.space (first_hints hs) ≡ false = known ∙ sym (ap not e ∙ not-not (list_any (bytes_eq text) seen)) in
        ap (λ (gs : List Hint). gs ++ h ∷ []) firsts_are ∙ sym (first_hints-push hs h ∙ rw unknown refl)
    by false e =
        let there : knows h.space (first_hints hs) ≡ true = known ∙ sym (ap not e ∙ not-not (list_any (bytes_eq text) seen)) in
        firsts_are ∙ sym (first_hints-push hs h ∙ rw there refl)

-- ---- marks

-- one hint more, with its mark
pub marked-push : (ms : List Bool) (hs : List Hint) (b : Bool) (h : Hint) → length ms ≡ length hs
    → marked (ms ++ b ∷ []) (hs ++ h ∷ []) ≡ (if b then marked ms hs ++ h ∷ [] else marked ms hs)
marked-push [] [] b h e = refl
marked-push [] (x ∷ hs) b h e = absurd (omega arith)
marked-push (m ∷ ms) [] b h e = absurd (omega arith)
marked-push (m ∷ ms) (x ∷ hs) b h e = by m b (marked-push ms hs b h (omega arith))
  where
    by : (m b : Bool) → marked (ms ++ b ∷ []) (hs ++ h ∷ []) ≡ (if b then marked ms hs ++ h ∷ [] else marked ms hs)
        → (if m then x ∷ marked (ms ++ b ∷ []) (hs ++ h ∷ []) else marked (ms ++ b ∷ []) (hs ++ h ∷ []))
        ≡ (if b then (if m then x ∷ marked ms hs else marked ms hs) ++ h ∷ [] else (if m then x ∷ marked ms hs else marked ms hs))
    by true true e = ap (λ (gs : List Hint). x ∷ gs) e
    by true false e = ap (λ (gs : List Hint). x ∷ gs) e
    by false true e = e
    by false false e = e

-- the next hint of a list, taken or left by the next mark
pub marked_next : (firsts : List Hint) (marks : List Bool) (h : Hint) (more : List Hint)
    → firsts ++ marked marks (h ∷ more) ≡ (if first_mark marks then firsts ++ h ∷ [] else firsts) ++ marked (later_marks marks) more
marked_next firsts marks h more = by (first_mark marks)
  where
    by : (b : Bool) → firsts ++ (if b then h ∷ marked (later_marks marks) more else marked (later_marks marks) more) ≡ (if b then firsts ++ h ∷ [] else firsts) ++ marked (later_marks marks) more
    by true = sym (append_assoc firsts (h ∷ []) (marked (later_marks marks) more))
    by false = refl
