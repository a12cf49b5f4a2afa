-- The members that a form writes of a well-formed tree are properties whose names have prefixes, and they are the members of a well-formed tree.
use Rattle.std.proofs.Common.{◌≡◌, ◌≢◌, ℕ, ◌+◌, ◌-◌, ◌≤◌, List, [], ◌++◌, take, drop, get_or, Option, Some, None, ap, sym, subst, ◌∙◌, arith}
use Rattle.std.specs.Prelude.{All, AllPairs}
use Rattle.std.specs.List.{flat_map}
use Rattle.std.proofs.lemmas.List.{get_or-take, get_or-drop, length-take, length-drop}
use Rattle.std.proofs.lemmas.List.Elements.{All-cons, All-head, All-tail, All-take, All-drop}
use Rattle.xmp_values.specs.declared.hints.Hint.{Hint}
use Rattle.xmp_values.specs.declared.text.Name.{Name}
use Rattle.xmp_tree.specs.declared.nested.Value.{Value, Value', out-Value, outs-Value', Row_of-Member, end_of-Member, more_of-Member, items-the_row-Member, items_shown-the_row-Member-0}
use Rattle.xmp_tree.specs.declared.nested.Member.{Member}
use Rattle.xmp_tree.specs.declared.nested.Shape.{Shape, out-Shape, Simple, Uri, Struct', Array'}
use Rattle.xmp_tree.specs.declared.nested.Shape.TheViews as views
use Rattle.xmp_tree.specs.Parts.{Parts, simple}
use Rattle.xmp_tree.specs.Wf.{name_of, IsSimpleLayer, IsOwnSpace, IsWfMember, member_depth, Wf, note_name}
use Rattle.xmp_tree.proofs.Made.{formed_member, formed_simple, depth-member, depth-simple, plain_simple}
use Rattle.xmp_write.specs.declared.forms.Form.{Form}
use Rattle.xmp_write.specs.Written.{member_spaces, note_members, note_spaces, written_props, written_members, written_spaces}
use Rattle.xmp_write.specs.PrefixLaws.{AreBound}
use Rattle.round_trip.specs.Law.{IsNote}
use Rattle.round_trip.proofs.Naming.{HasNames, ShapeNames, MemberNames, MembersNames}
use Rattle.round_trip.proofs.Premises.{IsWritable, IsProperty}
use Rattle.round_trip.proofs.Rolled.{member_is}
use Rattle.round_trip.proofs.Writable.{IsBound, own_writable, are_properties}
use Rattle.round_trip.proofs.Notes.{note_member, note_space, note_named, capitals_text}

-- ---- a part of a tree

-- the properties that a form writes, under the tree's about
abbrev pub part_of : Parts → Form → Parts
part_of t form = record { about = t.about; props = written_props t form }

-- what holds of each member of a list holds of each in a range
each_written : (P : Member → Type 0) (t : Parts) (form : Form) → All P t.props → All P (written_props t form)
each_written P t form h = All-take P (form.first + form.count - form.first) (drop form.first t.props) (All-drop P form.first t.props h)

pairs_take : (R : Member → Member → Type 0) (n : ℕ) (ms : List Member) → AllPairs R ms → AllPairs R (take n ms)
pairs_take R n ms h i j d lt within =
    let len = length-take n ms in
    subst (λ (x : Member). R x (get_or (take n ms) j d)) (sym (get_or-take n ms i d (omega (arith, len, lt, within))))
    (subst (λ (y : Member). R (get_or ms i d) y) (sym (get_or-take n ms j d (omega (arith, len, within)))) (h i j d lt (omega (arith, len, within))))

pairs_drop : (R : Member → Member → Type 0) (n : ℕ) (ms : List Member) → AllPairs R ms → AllPairs R (drop n ms)
pairs_drop R n ms h i j d lt within =
    let len = length-drop n ms in
    subst (λ (x : Member). R x (get_or (drop n ms) j d)) (sym (get_or-drop n ms i d))
    (subst (λ (y : Member). R (get_or ms (n + i) d) y) (sym (get_or-drop n ms j d)) (h (n + i) (n + j) d (omega (arith, lt)) (omega (arith, len, within))))

pub part_formed : (t : Parts) (form : Form) → Wf t → Wf (part_of t form)
part_formed t form wf = record {
  about = wf.about;
  props = record {
    within = record { each = each_written IsWfMember t form wf.props.within.each; shallow = each_written (λ m. member_depth m ≤ 24) t form wf.props.within.shallow };
    fields = record {
      apart = pairs_take (λ m n. name_of m ≢ name_of n) (form.first + form.count - form.first) (drop form.first t.props) (pairs_drop (λ m n. name_of m ≢ name_of n) form.first t.props wf.props.fields.apart);
      own = each_written (λ m. IsOwnSpace (name_of m).space) t form wf.props.fields.own;
    };
  };
  note = each_written (λ m. name_of m ≢ note_name) t form wf.note;
}

-- ---- the note's member

no_members : (P : Name → Type 0) {m : _} (row : Row_of-Member m) → items-the_row-Member m row ≡ [] → MembersNames P row
no_members P end_of-Member none = tt
no_members P (more_of-Member m rest) none = absurd cc

no_fields : (P : Name → Type 0) (s : Shape) → IsSimpleLayer (out-Shape s) → ShapeNames P s
no_fields P (Simple text) h = tt
no_fields P (Uri text) h = tt
no_fields P (Struct' n fields) h = absurd (subst IsSimpleLayer (views.outs-Struct' n fields) h)
no_fields P (Array' kind n items) h = absurd (subst IsSimpleLayer (views.outs-Array' kind n items) h)

-- a simple text with no qualifier has no names
no_names : (P : Name → Type 0) (v : Value) → IsSimpleLayer (out-Shape (out-Value v).shape) → (out-Value v).quals ≡ [] → HasNames P v
no_names P (Value' shape n quals) plain none =
    let parts = outs-Value' shape n quals in
    (no_fields P shape (subst (λ v. IsSimpleLayer (out-Shape v.shape)) parts plain), no_members P quals (sym (items_shown-the_row-Member-0 n quals) ∙ sym (ap (λ v. v.quals) parts) ∙ none))

note_property : (ps : List Hint) (digits : List ℕ) → IsNote (Some digits) → IsBound ps note_name.space → IsProperty ps (note_member digits)
note_property ps digits h bound =
    let plain = plain_simple digits in
    let depth = depth-member note_name (simple digits) in
    let low = depth-simple digits in
    record {
      names = subst (MemberNames (IsWritable ps)) (sym (member_is note_name (simple digits)))
          (own_writable ps note_name note_named.local note_space.0 bound, no_names (IsWritable ps) (simple digits) plain.0 plain.1);
      formed = formed_member note_name (simple digits) note_named (formed_simple digits (capitals_text digits h));
      shallow = omega (arith, depth, low);
    }

pub written_properties : (ps : List Hint) (t : Parts) (form : Form) → Wf t → IsNote form.note → AreBound ps (written_spaces t form) → All (IsProperty ps) (written_members t form)
written_properties ps t form wf noted bound = by form.note noted bound
  where
    props : AreBound ps (flat_map member_spaces (written_props t form)) → All (IsProperty ps) (written_props t form)
    props bound =
        let part = part_formed t form wf in
        are_properties ps (written_props t form) part.props.within.each part.props.fields.own part.props.within.shallow bound

    by : (note : Option (List ℕ)) → IsNote note → AreBound ps (note_spaces note ++ flat_map member_spaces (written_props t form)) → All (IsProperty ps) (note_members note ++ written_props t form)
    by None h bound = props bound
    by (Some digits) h bound =
        All-cons (IsProperty ps) (note_member digits) (written_props t form)
        (note_property ps digits h (All-head (IsBound ps) note_name.space (flat_map member_spaces (written_props t form)) bound))
        (props (All-tail (IsBound ps) note_name.space (flat_map member_spaces (written_props t form)) bound))
