-- A text depends on the prefixes of its own namespaces alone.
use Rattle.std.proofs.Common.{◌≡◌, ℕ, ◌+◌, cond, List, [], ◌∷◌, ◌++◌, length, Option, None, refl, ap, subst, ◌∙◌, length-append, arith}
use Rattle.std.specs.Prelude.{codes, All}
use Rattle.std.specs.List.{flat_map}
use Rattle.std.proofs.Math.ListN.{get_or-append}
use Rattle.std.proofs.lemmas.List.{get_or-append-add}
use Rattle.std.proofs.lemmas.List.Elements.{All-head, All-tail}
use Rattle.xmp_values.specs.declared.hints.Hint.{Hint}
use Rattle.xmp_tree.specs.declared.nested.Value.{Value, Value', Row_of-Member, end_of-Member, more_of-Member}
use Rattle.xmp_tree.specs.declared.nested.Member.{Member, Member'}
use Rattle.xmp_tree.specs.declared.nested.Shape.{Shape, Simple, Uri, Struct', Array', Row_of-Value, end_of-Value, more_of-Value}
use Rattle.xmp_write.specs.Prefixes.{written_prefix, spelled}
use Rattle.xmp_write.specs.Written.{value_spaces, shape_spaces, member_spaces, members_spaces, items_spaces}
use Rattle.xmp_write.specs.Text.{is_lang_name, lang_in, has_others, lang_text, parse_text, element_text, kind_name, value_text, shape_text, member_text, members_text, others_text, items_text, lines_text}

-- what holds of a list holds of its front and of its end
pub All-front : {X : Type 0} (P : X → Type 0) (xs ys : List X) → All P (xs ++ ys) → All P xs
All-front P xs ys all k d within = subst P (get_or-append xs ys d k within) (all k d (omega (arith, length-append xs ys)))

pub All-end : {X : Type 0} (P : X → Type 0) (xs ys : List X) → All P (xs ++ ys) → All P ys
All-end P xs ys all k d within = subst P (get_or-append-add xs ys k d) (all (length xs + k) d (omega (arith, length-append xs ys)))

module _ (ps qs : List Hint) where
  abbrev pub AreAlike : List (List ℕ) → Type 0
  AreAlike = All (λ space. written_prefix ps space ≡ written_prefix qs space)

  alike_front : (xs ys : List (List ℕ)) → AreAlike (xs ++ ys) → AreAlike xs
  alike_front xs ys = All-front (λ space. written_prefix ps space ≡ written_prefix qs space) xs ys

  alike_end : (xs ys : List (List ℕ)) → AreAlike (xs ++ ys) → AreAlike ys
  alike_end xs ys = All-end (λ space. written_prefix ps space ≡ written_prefix qs space) xs ys

  mutual
    value_alike : (name : List ℕ) (v : Value) → AreAlike (value_spaces v) → value_text ps name v ≡ value_text qs name v
    value_alike name (Value' shape n quals) same =
        let shapes = alike_front (shape_spaces shape) (members_spaces quals) same in
        let b = has_others quals in
        let attributes = lang_text (lang_in quals) ++ parse_text in
        ap (λ text. cond b (element_text name attributes (text ++ others_text ps quals)) (shape_text ps name (lang_in quals) shape)) (shape_alike (codes "rdf:value") None shape shapes)
        ∙ ap (λ text. cond b (element_text name attributes (shape_text qs (codes "rdf:value") None shape ++ text)) (shape_text ps name (lang_in quals) shape))
        (others_alike quals (alike_end (shape_spaces shape) (members_spaces quals) same))
        ∙ ap (λ text. cond b (element_text name attributes (shape_text qs (codes "rdf:value") None shape ++ others_text qs quals)) text) (shape_alike name (lang_in quals) shape shapes)

    shape_alike : (name : List ℕ) (lang : Option (List ℕ)) (shape : Shape) → AreAlike (shape_spaces shape) → shape_text ps name lang shape ≡ shape_text qs name lang shape
    shape_alike name lang (Simple text) same = refl
    shape_alike name lang (Uri text) same = refl
    shape_alike name lang (Struct' n fields) same = ap (element_text name (lang_text lang ++ parse_text)) (members_alike fields same)
    shape_alike name lang (Array' kind n items) same = ap (λ text. element_text name (lang_text lang) (element_text (kind_name kind) [] text)) (items_alike items same)

    pub member_alike : (m : Member) → AreAlike (member_spaces m) → member_text ps m ≡ member_text qs m
    member_alike (Member' name value) same =
        let P = λ (space : List ℕ). written_prefix ps space ≡ written_prefix qs space in
        ap (λ prefix. value_text ps (prefix ++ codes ":" ++ name.local) value) (All-head P name.space (value_spaces value) same)
        ∙ value_alike (spelled qs name) value (All-tail P name.space (value_spaces value) same)

    members_alike : {n : _} (row : Row_of-Member n) → AreAlike (members_spaces row) → members_text ps row ≡ members_text qs row
    members_alike end_of-Member same = refl
    members_alike (more_of-Member m rest) same =
        ap (λ text. text ++ members_text ps rest) (member_alike m (alike_front (member_spaces m) (members_spaces rest) same))
        ∙ ap (λ text. member_text qs m ++ text) (members_alike rest (alike_end (member_spaces m) (members_spaces rest) same))

    others_alike : {n : _} (row : Row_of-Member n) → AreAlike (members_spaces row) → others_text ps row ≡ others_text qs row
    others_alike end_of-Member same = refl
    others_alike (more_of-Member (Member' name value) rest) same =
        let more = members_alike rest (alike_end (member_spaces (Member' name value)) (members_spaces rest) same) in
        let first = member_alike (Member' name value) (alike_front (member_spaces (Member' name value)) (members_spaces rest) same) in
        ap (λ text. cond (is_lang_name name) text (value_text ps (spelled ps name) value ++ text)) more
        ∙ ap (λ text. cond (is_lang_name name) (members_text qs rest) (text ++ members_text qs rest)) first

    items_alike : {n : _} (row : Row_of-Value n) → AreAlike (items_spaces row) → items_text ps row ≡ items_text qs row
    items_alike end_of-Value same = refl
    items_alike (more_of-Value item rest) same =
        ap (λ text. text ++ items_text ps rest) (value_alike (codes "rdf:li") item (alike_front (value_spaces item) (items_spaces rest) same))
        ∙ ap (λ text. value_text qs (codes "rdf:li") item ++ text) (items_alike rest (alike_end (value_spaces item) (items_spaces rest) same))

  pub lines_alike : (ms : List Member) → AreAlike (flat_map member_spaces ms) → lines_text ps ms ≡ lines_text qs ms
  lines_alike [] same = refl
  lines_alike (m ∷ ms) same =
      ap (λ text. text ++ (codes "\n" ++ lines_text ps ms)) (member_alike m (alike_front (member_spaces m) (flat_map member_spaces ms) same))
      ∙ ap (λ text. member_text qs m ++ (codes "\n" ++ text)) (lines_alike ms (alike_end (member_spaces m) (flat_map member_spaces ms) same))
