-- The change of each action keeps what may stand at its place.
use Rattle.std.proofs.Common.{◌≡◌, ◌+◌, ◌-◌, ◌≤◌, ◌++◌, ℕ, Bool, true, false, List, [], ◌∷◌, length, take, drop, Option, Some, None, refl, sym, subst, arith}
use Rattle.std.specs.Prelude.{All, Result, Ok, Err, insert, slice_get, if◌then◌else◌, nat_le}
use Rattle.std.proofs.lemmas.List.Elements.{All-nil, All-cons, All-head, All-tail, All-push, All-append, All-take, All-drop}
use Rattle.xmp_values.specs.Characters.{IsCharText}
use Rattle.xmp_values.specs.declared.rules.Rule.{Rule}
use Rattle.xmp_values.specs.declared.rules.Rule.TheVariants.{WrongShape, OutOfArray}
use Rattle.xmp_tree.specs.declared.nested.Kind.{Kind}
use Rattle.xmp_tree.specs.declared.nested.Kind.TheVariants.{Alt}
use Rattle.xmp_tree.specs.declared.nested.Value.{Value, out-Value}
use Rattle.xmp_tree.specs.declared.nested.Member.{Member}
use Rattle.xmp_tree.specs.declared.nested.Shape.{Shape, Shape-F, out-Shape, roll-Shape, roll-out-Shape, Simple, Uri, Struct, Array}
use Rattle.xmp_tree.specs.declared.nested.Shape.TheVariants.{rolls-Array}
use Rattle.xmp_tree.specs.declared.nested.Shape.TheOpen as layer
use Rattle.xmp_tree.specs.Parts.{member, value, simple}
use Rattle.xmp_tree.specs.Wf.{IsWfValue, value_depth, IsPlain, IsPlainUri, lang_name, type_name, AreWellFormedQualifiers, member_depth, value_of}
use Rattle.xmp_tree.specs.Places.{tag_place}
use Rattle.xmp_tree.proofs.WfLemmas.{within_value, within_struct, within_array}
use Rattle.xmp_tree.proofs.Made.{formed_simple, depth-simple, formed_uri, depth-uri, plain_simple, plain_uri, formed_none, formed_quals_none, formed_quals_more, formed_member, depth-member, name-member, value-member, named_lang, lang_qualifier}
use Rattle.xmp_paths.specs.declared.step.Step.{Step}
use Rattle.xmp_paths.specs.declared.step.Step.TheVariants.{Field, Qualifier, Item, Tag}
use Rattle.xmp_edit.specs.declared.action.Action.{Action}
use Rattle.xmp_edit.specs.declared.action.Action.TheVariants.{SetText, SetUri, Delete, MakeArray, MakeStruct, Append, Insert, SetLang}
use Rattle.xmp_edit.specs.declared.edit.Edit.{Edit}
use Rattle.xmp_edit.specs.Edits.{Change, ok_map}
use Rattle.xmp_edit.specs.Actions.{leaf_put, set_leaf, array_stays, struct_stays, same_kind, array_put, in_array, appended, inserted, spoken, is_default, said, alt_put, change_of}
use Rattle.xmp_edit.specs.Allowed.{IsWithin, Suits, Fits, IfSome', IfGiven, Keeps, KeepsLast, last_from, last_step, IsNot, MayEnd, texts_of, levels_of, IsAllowed}
use Rattle.xmp_edit.proofs.Items.{kept_item}
use Rattle.xmp_edit.proofs.Levels.{given_map, IsShapeWithin, AreItems, made_value}

-- What suits: anything at a step other than `xml:lang` and `rdf:type`.
suits_free : (s : Step) (v : Value) → IsNot type_name s → IsNot lang_name s → Suits s v
suits_free (Field n) v t l = tt
suits_free (Qualifier n) v t l = record { lang = λ e. absurd (l e); kind = λ e. absurd (t e) }
suits_free (Item i) v t l = tt
suits_free (Tag tag) v t l = tt

suits_text : (s : Step) (text : List ℕ) → IsNot type_name s → Suits s (simple text)
suits_text (Field n) text t = tt
suits_text (Qualifier n) text t = record { lang = λ e. plain_simple text; kind = λ e. absurd (t e) }
suits_text (Item i) text t = tt
suits_text (Tag tag) text t = tt

suits_old_text : (s : Step) (text : List ℕ) (v : Value) → IsNot type_name s → Suits s v → Suits s (value (Simple text) (out-Value v).quals)
suits_old_text (Field n) text v t suits = tt
suits_old_text (Qualifier n) text v t suits = record {
  lang = λ e. subst (λ q. IsPlain (value (Simple text) q)) (sym (suits.lang e).1) (plain_simple text);
  kind = λ e. absurd (t e);
}
suits_old_text (Item i) text v t suits = tt
suits_old_text (Tag tag) text v t suits = tt

suits_uri : (s : Step) (uri : List ℕ) → IsNot lang_name s → Suits s (value (Uri uri) [])
suits_uri (Field n) uri l = tt
suits_uri (Qualifier n) uri l = record { lang = λ e. absurd (l e); kind = λ e. plain_uri uri }
suits_uri (Item i) uri l = tt
suits_uri (Tag tag) uri l = tt

suits_old_uri : (s : Step) (uri : List ℕ) (v : Value) → IsNot lang_name s → Suits s v → Suits s (value (Uri uri) (out-Value v).quals)
suits_old_uri (Field n) uri v l suits = tt
suits_old_uri (Qualifier n) uri v l suits = record {
  lang = λ e. absurd (l e);
  kind = λ e. subst (λ q. IsPlainUri (value (Uri uri) q)) (sym (suits.kind e).1) (plain_uri uri);
}
suits_old_uri (Item i) uri v l suits = tt
suits_old_uri (Tag tag) uri v l suits = tt

leaf_kept : (P : Value → Type 0) (new : Shape) (quals : List Member) → P (value new quals) → (l : Shape-F Shape Member Value) → IfGiven (IfSome' P) (leaf_put new quals l)
leaf_kept P new quals h (layer.Simple text) = h
leaf_kept P new quals h (layer.Uri text) = h
leaf_kept P new quals h (layer.Struct fields) = tt
leaf_kept P new quals h (layer.Array kind items) = tt

text_within : (room : ℕ) → (room ≡ 0 → ⊥) → (text : List ℕ) → IsCharText text → IsWithin room (simple text)
text_within room some text chars = (formed_simple text chars, omega (arith, some, depth-simple text))

-- a text with its language goes two levels deep
spoken_within : (room : ℕ) → 2 ≤ room → (tag text : List ℕ) → IsCharText tag → IsCharText text → IsWithin room (spoken tag text)
spoken_within room deep tag text tagged chars =
    let m = member lang_name (simple tag) in
    let shallow : member_depth m ≤ room - 1 = subst (λ d. d ≤ room - 1) (sym (depth-member lang_name (simple tag))) (omega (arith, deep, depth-simple tag)) in
    let plain : IsPlain (value_of m) = subst IsPlain (sym (value-member lang_name (simple tag))) (plain_simple tag) in
    made_value room (λ e. omega arith) (Simple text) (m ∷ []) (chars, omega arith)
    (formed_quals_more [] m (room - 1) (formed_quals_none (room - 1)) (formed_member lang_name (simple tag) named_lang (formed_simple tag tagged)) shallow
    (lang_qualifier m (name-member lang_name (simple tag)) plain) (λ e. refl) (λ any. absurd (omega (arith, any.2))))

-- One action at a place where `room` levels are left.
module _ (room : ℕ) (some : room ≡ 0 → ⊥) (s : Step) where
  quals_of : (v : Value) → IsWithin room v → AreWellFormedQualifiers (room - 1) (out-Value v).quals
  quals_of v h = ((within_value v room some).0 h).1

  shape_of : (v : Value) → IsWithin room v → IsShapeWithin (room - 1) (roll-Shape (out-Shape (out-Value v).shape))
  shape_of v h = subst (IsShapeWithin (room - 1)) (sym (roll-out-Shape (out-Value v).shape)) ((within_value v room some).0 h).0

  text_kept : (text : List ℕ) → IsCharText text → IsNot type_name s → Keeps (Fits room s) (set_leaf (Simple text))
  text_kept text chars t None h = (text_within room some text chars, suits_text s text t)
  text_kept text chars t (Some v) h =
      leaf_kept (Fits room s) (Simple text) (out-Value v).quals
      (made_value room some (Simple text) (out-Value v).quals (chars, omega arith) (quals_of v h.0), suits_old_text s text v t h.1)
      (out-Shape (out-Value v).shape)

  uri_kept : (uri : List ℕ) → IsCharText uri → IsNot lang_name s → Keeps (Fits room s) (set_leaf (Uri uri))
  uri_kept uri chars l None h = ((formed_uri uri chars, omega (arith, some, depth-uri uri)), suits_uri s uri l)
  uri_kept uri chars l (Some v) h =
      leaf_kept (Fits room s) (Uri uri) (out-Value v).quals
      (made_value room some (Uri uri) (out-Value v).quals (chars, omega arith) (quals_of v h.0), suits_old_uri s uri v l h.1)
      (out-Shape (out-Value v).shape)

  delete_kept : Keeps (Fits room s) (change_of Delete)
  delete_kept None h = tt
  delete_kept (Some v) h = tt

  module _ (t : IsNot type_name s) (l : IsNot lang_name s) where
    free : (v : Value) → IsWithin room v → Fits room s v
    free v h = (h, suits_free s v t l)

    no_items : (kind : Kind) → IsShapeWithin (room - 1) (Array kind [])
    no_items kind = (within_array kind [] (room - 1)).1 (All-nil IsWfValue, All-nil (λ v. value_depth v ≤ room - 1))

    array_kept : (kind : Kind) → Keeps (Fits room s) (change_of (MakeArray kind))
    array_kept kind None h = free (value (Array kind []) []) (made_value room some (Array kind []) [] (no_items kind) (formed_quals_none (room - 1)))
    array_kept kind (Some v) h = by (out-Shape (out-Value v).shape)
      where
        either : (b : Bool) → IfGiven (IfSome' (Fits room s)) (if b then Ok (Some v) else Err WrongShape)
        either true = h
        either false = tt

        by : (y : Shape-F Shape Member Value) → IfGiven (IfSome' (Fits room s)) (array_stays kind v y)
        by (layer.Simple text) = tt
        by (layer.Uri text) = tt
        by (layer.Struct fields) = tt
        by (layer.Array k items) = either (same_kind kind k)

    struct_kept : Keeps (Fits room s) (change_of MakeStruct)
    struct_kept None h = free (value (Struct []) []) (made_value room some (Struct []) [] ((within_struct [] (room - 1)).1 (formed_none (room - 1))) (formed_quals_none (room - 1)))
    struct_kept (Some v) h = by (out-Shape (out-Value v).shape)
      where
        by : (y : Shape-F Shape Member Value) → IfGiven (IfSome' (Fits room s)) (struct_stays v y)
        by (layer.Simple text) = tt
        by (layer.Uri text) = tt
        by (layer.Struct fields) = h
        by (layer.Array kind items) = tt

    -- a change of the items that keeps what each of them keeps
    abbrev ItemsKeep : (List Value → Result (List Value) Rule) → Type 0
    ItemsKeep f = (vs : List Value) → All (IsWithin (room - 1)) vs → IfGiven (All (IsWithin (room - 1))) (f vs)

    items_apart : (vs : List Value) → AreItems (room - 1) vs → All (IsWithin (room - 1)) vs
    items_apart vs h = λ i d lt. (h.0 i d lt, h.1 i d lt)

    items_joined : (vs : List Value) → All (IsWithin (room - 1)) vs → AreItems (room - 1) vs
    items_joined vs h = (λ i d lt. (h i d lt).0, λ i d lt. (h i d lt).1)

    array_of : (kind : Kind) (vs : List Value) (quals : List Member) → All (IsWithin (room - 1)) vs → AreWellFormedQualifiers (room - 1) quals → Fits room s (value (Array kind vs) quals)
    array_of kind vs quals each formed =
        free (value (Array kind vs) quals) (made_value room some (Array kind vs) quals ((within_array kind vs (room - 1)).1 (items_joined vs each)) formed)

    array_put_kept : (f : List Value → Result (List Value) Rule) → ItemsKeep f → (quals : List Member) → AreWellFormedQualifiers (room - 1) quals →
        (y : Shape-F Shape Member Value) → IsShapeWithin (room - 1) (roll-Shape y) → IfGiven (IfSome' (Fits room s)) (array_put f quals y)
    array_put_kept f keeps quals formed (layer.Simple text) h = tt
    array_put_kept f keeps quals formed (layer.Uri text) h = tt
    array_put_kept f keeps quals formed (layer.Struct fields) h = tt
    array_put_kept f keeps quals formed (layer.Array kind items) h =
        given_map (All (IsWithin (room - 1))) (IfSome' (Fits room s)) (λ vs. Some (value (Array kind vs) quals)) (λ vs each. array_of kind vs quals each formed) (f items)
        (keeps items (items_apart items ((within_array kind items (room - 1)).0 (subst (IsShapeWithin (room - 1)) (rolls-Array kind items) h))))

    in_array_kept : (f : List Value → Result (List Value) Rule) → ItemsKeep f → Keeps (Fits room s) (in_array f)
    in_array_kept f keeps None h = tt
    in_array_kept f keeps (Some v) h = array_put_kept f keeps (out-Value v).quals (quals_of v h.0) (out-Shape (out-Value v).shape) (shape_of v h.0)

    append_kept : 2 ≤ room → (text : List ℕ) → IsCharText text → Keeps (Fits room s) (change_of (Append text))
    append_kept deep text chars =
        in_array_kept (appended text) (λ vs each. All-push (IsWithin (room - 1)) vs (simple text) each (text_within (room - 1) (λ e. omega arith) text chars))

    insert_kept : 2 ≤ room → (at : ℕ) (text : List ℕ) → IsCharText text → Keeps (Fits room s) (change_of (Insert at text))
    insert_kept deep at text chars = in_array_kept (inserted at text) (λ vs each. either vs (put vs each) (nat_le at (length vs)))
      where
        put : (vs : List Value) → All (IsWithin (room - 1)) vs → All (IsWithin (room - 1)) (insert vs at (simple text))
        put vs each =
            All-append (IsWithin (room - 1)) (take at vs) (simple text ∷ drop at vs) (All-take (IsWithin (room - 1)) at vs each)
            (All-cons (IsWithin (room - 1)) (simple text) (drop at vs) (text_within (room - 1) (λ e. omega arith) text chars) (All-drop (IsWithin (room - 1)) at vs each))

        either : (vs : List Value) → All (IsWithin (room - 1)) (insert vs at (simple text)) → (b : Bool) →
            IfGiven (All (IsWithin (room - 1))) (if b then Ok (insert vs at (simple text)) else Err OutOfArray)
        either vs h true = h
        either vs h false = tt

    module _ (deep : 3 ≤ room) (tag text : List ℕ) (tagged : IsCharText tag) (chars : IsCharText text) where
      new_item : IsWithin (room - 1) (spoken tag text)
      new_item = spoken_within (room - 1) (omega arith) tag text tagged chars

      said_keeps : Keeps (IsWithin (room - 1)) (set_leaf (Simple text))
      said_keeps None h = text_within (room - 1) (λ e. omega arith) text chars
      said_keeps (Some v) h =
          let some1 : room - 1 ≡ 0 → ⊥ = λ e. omega arith in
          leaf_kept (IsWithin (room - 1)) (Simple text) (out-Value v).quals
          (made_value (room - 1) some1 (Simple text) (out-Value v).quals (chars, omega arith) ((within_value v (room - 1) some1).0 h).1)
          (out-Shape (out-Value v).shape)

      more_kept : (vs : List Value) → All (IsWithin (room - 1)) vs → (b : Bool) → All (IsWithin (room - 1)) (if b then spoken tag text ∷ vs else vs ++ spoken tag text ∷ [])
      more_kept vs each true = All-cons (IsWithin (room - 1)) (spoken tag text) vs new_item each
      more_kept vs each false = All-push (IsWithin (room - 1)) vs (spoken tag text) each new_item

      said_kept : (vs : List Value) → All (IsWithin (room - 1)) vs → (o : Option ℕ) → IfGiven (All (IsWithin (room - 1))) (said tag text vs o)
      said_kept vs each (Some i) = kept_item (IsWithin (room - 1)) (set_leaf (Simple text)) said_keeps vs each i (slice_get vs i) refl
      said_kept vs each None = more_kept vs each (is_default tag)

      alt_kept : (quals : List Member) → AreWellFormedQualifiers (room - 1) quals → (y : Shape-F Shape Member Value) → IsShapeWithin (room - 1) (roll-Shape y) →
          IfGiven (IfSome' (Fits room s)) (alt_put tag text quals y)
      alt_kept quals formed (layer.Simple t) h = tt
      alt_kept quals formed (layer.Uri t) h = tt
      alt_kept quals formed (layer.Struct fields) h = tt
      alt_kept quals formed (layer.Array kind items) h = by (same_kind kind Alt)
        where
          given : IfGiven (IfSome' (Fits room s)) (ok_map (λ vs. Some (value (Array Alt vs) quals)) (said tag text items (tag_place tag items)))
          given =
              given_map (All (IsWithin (room - 1))) (IfSome' (Fits room s)) (λ vs. Some (value (Array Alt vs) quals)) (λ vs each. array_of Alt vs quals each formed) (said tag text items (tag_place tag items))
              (said_kept items (items_apart items ((within_array kind items (room - 1)).0 (subst (IsShapeWithin (room - 1)) (rolls-Array kind items) h))) (tag_place tag items))

          by : (b : Bool) → IfGiven (IfSome' (Fits room s)) (if b then ok_map (λ vs. Some (value (Array Alt vs) quals)) (said tag text items (tag_place tag items)) else Err WrongShape)
          by true = given
          by false = tt

      lang_kept : Keeps (Fits room s) (change_of (SetLang tag text))
      lang_kept None h =
          array_of Alt (spoken tag text ∷ []) [] (All-cons (IsWithin (room - 1)) (spoken tag text) [] new_item (All-nil (IsWithin (room - 1)))) (formed_quals_none (room - 1))
      lang_kept (Some v) h = alt_kept (out-Value v).quals (quals_of v h.0) (out-Shape (out-Value v).shape) (shape_of v h.0)

-- each action, where enough levels are left
action_kept : (a : Action) (s : Step) (room : ℕ) → levels_of a + 1 ≤ room → MayEnd s a → All IsCharText (texts_of a) → Keeps (Fits room s) (change_of a)
action_kept (SetText text) s room deep ends texts = text_kept room (λ e. omega arith) s text (All-head IsCharText text [] texts) ends
action_kept (SetUri uri) s room deep ends texts = uri_kept room (λ e. omega arith) s uri (All-head IsCharText uri [] texts) ends
action_kept Delete s room deep ends texts = delete_kept room (λ e. omega arith) s
action_kept (MakeArray kind) s room deep ends texts = array_kept room (λ e. omega arith) s ends.0 ends.1 kind
action_kept MakeStruct s room deep ends texts = struct_kept room (λ e. omega arith) s ends.0 ends.1
action_kept (Append text) s room deep ends texts = append_kept room (λ e. omega arith) s ends.0 ends.1 (omega arith) text (All-head IsCharText text [] texts)
action_kept (Insert at text) s room deep ends texts = insert_kept room (λ e. omega arith) s ends.0 ends.1 (omega arith) at text (All-head IsCharText text [] texts)
action_kept (SetLang tag text) s room deep ends texts =
    lang_kept room (λ e. omega arith) s ends.0 ends.1 (omega arith) tag text (All-head IsCharText tag (text ∷ []) texts) (All-head IsCharText text [] (All-tail IsCharText tag (text ∷ []) texts))

-- down the steps to the last
kept_down : (change : Change) (ss : List Step) (s : Step) (room : ℕ) → length ss ≤ room → ((r : ℕ) → r + length ss ≡ room → Keeps (Fits r (last_from s ss)) change) → KeepsLast ss room s change
kept_down change [] s room fits keeps = keeps room (omega arith)
kept_down change (t ∷ ts) s room fits keeps = kept_down change ts t (room - 1) (omega arith) (λ r e. keeps r (omega arith))

pub keeps_last : (e : Edit) → IsAllowed e → KeepsLast e.path.steps 24 (Field e.path.name) (change_of e.action)
keeps_last e allowed =
    let shallow = allowed.shallow in
    kept_down (change_of e.action) e.path.steps (Field e.path.name) 24 (omega (arith, shallow))
    (λ r is. action_kept e.action (last_step e.path) r (omega (arith, shallow, is)) allowed.ends allowed.texts)
