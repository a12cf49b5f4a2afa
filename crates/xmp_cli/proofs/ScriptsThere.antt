-- No script and no edit is refused as a file that isn't there.
use Rattle.std.proofs.Common.{◌≡◌, ◌+◌, ℕ, Bool, true, false, List, [], ◌∷◌, Option, Some, None, Ok, Err, if◌then◌else◌}
use Rattle.std.specs.Prelude.{nat_lt, nat_le, ◌==◌, ◌&&◌, ◌||◌, not, length, slice_get, insert}
use Rattle.std.specs.declared.result.Result.{Result}
use Rattle.std.specs.Str.{is_utf8, bytes_eq}
use Rattle.std.specs.Str.Lossy.{utf8_valid_len}
use Rattle.xmp_values.specs.Spaces.{xmlns_space}
use Rattle.xmp_values.specs.declared.hints.Hint.{Hint}
use Rattle.xmp_values.specs.declared.text.Name.{Name}
use Rattle.xmp_values.specs.declared.rules.Rule.{Rule}
use Rattle.xmp_values.specs.declared.rules.Rule.TheVariants.{NoFile, NoSuchPlace, WrongShape, OutOfArray, Reserved, BadText, BadLanguageTag, EditDeep, ScriptUtf8}
use Rattle.xmp_tree.specs.declared.nested.Kind.{Kind}
use Rattle.xmp_tree.specs.declared.nested.Kind.TheVariants.{Alt}
use Rattle.xmp_tree.specs.declared.nested.Value.{Value, out-Value}
use Rattle.xmp_tree.specs.declared.nested.Member.{Member}
use Rattle.xmp_tree.specs.declared.nested.Shape.{Shape, Shape-F, out-Shape, Simple, Uri, Struct, Array}
use Rattle.xmp_tree.specs.declared.nested.Shape.TheOpen as layer
use Rattle.xmp_tree.specs.Parts.{Parts, value, simple}
use Rattle.xmp_tree.specs.Wf.{value_of, lang_name}
use Rattle.xmp_tree.specs.Items.{member_put, item_put}
use Rattle.xmp_tree.specs.Places.{same_name, place_of, tag_place}
use Rattle.xmp_paths.specs.declared.spelling.Spelling.{Spelling}
use Rattle.xmp_paths.specs.declared.step.Step.{Step}
use Rattle.xmp_paths.specs.declared.step.Step.TheVariants.{Field, Qualifier, Item, Tag}
use Rattle.xmp_paths.specs.Parts.{PathParts, Bindings}
use Rattle.xmp_paths.specs.Paths.{path_named, path_found, unreserved, is_reserved, is_deep, is_end}
use Rattle.xmp_edit.specs.declared.action.Action.{Action}
use Rattle.xmp_edit.specs.declared.action.Action.TheVariants.{SetText, SetUri, Delete, MakeArray, MakeStruct, Append, Insert, SetLang}
use Rattle.xmp_edit.specs.declared.edit.Edit.{Edit}
use Rattle.xmp_edit.specs.declared.line.Line.{Line}
use Rattle.xmp_edit.specs.declared.line.Line.TheVariants as lines
use Rattle.xmp_edit.specs.declared.given.Given.TheVariants.{Bound, Made}
use Rattle.xmp_edit.specs.Allowed.{last_step, levels_of}
use Rattle.xmp_edit.specs.Judging.{is_chars, is_taken, binding, spelling_of, may_end, has_chars, has_tags, made, edit_of, given}
use Rattle.xmp_edit.specs.Lines.{lines_of, line_of, without_cr}
use Rattle.xmp_edit.specs.ScriptParts.{ScriptParts, ReadingParts}
use Rattle.xmp_edit.specs.ScriptOf.{taken, line_read, on_line, lines_read, beginning, finished, script_of, one_edit, one_set_of}
use Rattle.xmp_edit.specs.Edits.{Change, ok_map, member_at, with_member, member_changed, in_members, item_at, with_item, in_items, tag_changed, in_tagged, fields_changed, items_changed, shape_changed, stepped, on_value, at_place, in_props}
use Rattle.xmp_edit.specs.Actions.{leaf_put, set_leaf, taken_out, same_kind, array_stays, make_array, struct_stays, make_struct, array_put, in_array, appended, inserted, said, alt_put, set_lang, change_of, makes}
use Rattle.xmp_edit.specs.Scripts.{edited, carried, edits_made}

-- a rule that is told isn't that of a missing file

abbrev There : {X : Type 0} → Result X Rule → Type 0
There (Ok x) = Unit {0}
There (Err rule) = rule ≡ NoFile → ⊥

abbrev pub ThereAt : {X : Type 0} → Result X (Rule × ℕ) → Type 0
ThereAt (Ok x) = Unit {0}
ThereAt (Err (rule, at)) = rule ≡ NoFile → ⊥

map_there : {X Y : Type 0} (f : X → Y) (r : Result X Rule) → There r → There (ok_map f r)
map_there f (Ok x) h = tt
map_there f (Err rule) h = h

or_there : {X : Type 0} (b : Bool) (r s : Result X Rule) → There r → There s → There (if b then r else s)
or_there true r s h k = h
or_there false r s h k = k

-- What a line gives.

found_there : (p : Option PathParts) → There (unreserved p)
found_there None = λ e. cc
found_there (Some p) = or_there (is_reserved p) (Err Reserved) (Ok p) (λ e. cc) tt

named_there : (b : Bindings) (s : Option Spelling) → There (path_named b s)
named_there b None = λ e. cc
named_there b (Some s) = found_there (path_found b s)

checked_by : (a b c d : Bool) (x : Edit) → There (if a then Err Reserved else if b then Err BadText else if c then Err BadLanguageTag else if d then Err EditDeep else Ok x)
checked_by true b c d x = λ e. cc
checked_by false true c d x = λ e. cc
checked_by false false true d x = λ e. cc
checked_by false false false true x = λ e. cc
checked_by false false false false x = tt

made_there : (line : ℕ) (action : Action) (p : Result PathParts Rule) → There p → There (made line action p)
made_there line action (Ok p) h =
    checked_by (not (may_end (last_step p) action)) (not (has_chars action)) (not (has_tags (last_step p) action)) (is_deep (levels_of action) p) (record { line = line; path = p; action = action })
made_there line action (Err rule) h = h

edit_there : (b : Bindings) (line : ℕ) (path : List ℕ) (qualifier : Option (List ℕ)) (action : Action) → There (edit_of b line path qualifier action)
edit_there b line path qualifier action = made_there line action (path_named b (spelling_of path qualifier)) (named_there b (spelling_of path qualifier))

bound_by : (a b : Bool) (h : Hint) → There (if a then Err Reserved else if b then Ok h else Err BadText)
bound_by true b h = λ e. cc
bound_by false true h = tt
bound_by false false h = λ e. cc

given_there : (b : Bindings) (line : ℕ) (l : Option Line) → There (given b line l)
given_there b line None = λ e. cc
given_there b line (Some lines.Skip) = tt
given_there b line (Some (lines.Bind prefix uri)) =
    map_there Bound (binding b prefix uri) (bound_by (is_taken b prefix || bytes_eq uri xmlns_space) (is_chars uri) (record { space = uri; prefix = prefix }))
given_there b line (Some (lines.Change path qualifier action)) = map_there Made (edit_of b line path qualifier action) (edit_there b line path qualifier action)

-- What a script gives.

on_line_there : (next : ReadingParts → Result ReadingParts (Rule × ℕ)) (line : ℕ) (r : Result ReadingParts Rule) → There r → ((x : ReadingParts) → ThereAt (next x)) → ThereAt (on_line next line r)
on_line_there next line (Ok r) h later = later r
on_line_there next line (Err rule) h later = h

lines_there : (texts : List (List ℕ)) (line : ℕ) (r : ReadingParts) → ThereAt (lines_read texts line r)
lines_there [] line r = tt
lines_there (text ∷ texts) line r =
    on_line_there (lines_read texts (line + 1)) line (line_read line r text)
    (map_there (taken r) (given r.bindings line (line_of (without_cr text))) (given_there r.bindings line (line_of (without_cr text)))) (λ x. lines_there texts (line + 1) x)

finished_there : (hints : List Hint) (r : Result ReadingParts (Rule × ℕ)) → ThereAt r → ThereAt (finished hints r)
finished_there hints (Ok r) h = tt
finished_there hints (Err (rule, at)) h = h

utf8_there : (b : Bool) (r : Result ScriptParts (Rule × ℕ)) (at : ℕ) → ThereAt r → ThereAt (if b then r else Err (ScriptUtf8, at))
utf8_there true r at h = h
utf8_there false r at h = λ e. cc

pub script_there : (hints : List Hint) (bytes : List ℕ) → ThereAt (script_of hints bytes)
script_there hints bytes =
    utf8_there (is_utf8 bytes) (finished hints (lines_read (lines_of bytes) 1 (beginning hints))) (utf8_valid_len bytes)
    (finished_there hints (lines_read (lines_of bytes) 1 (beginning hints)) (lines_there (lines_of bytes) 1 (beginning hints)))

one_there : (hints : List Hint) (e : Result Edit Rule) → There e → ThereAt (one_edit hints e)
one_there hints (Ok e) h = tt
one_there hints (Err rule) h = h

pub one_set_there : (hints : List Hint) (path text : List ℕ) → ThereAt (one_set_of hints path text)
one_set_there hints path text = one_there hints (edit_of (record { lines = []; hints = hints }) 3 path None (SetText text)) (edit_there (record { lines = []; hints = hints }) 3 path None (SetText text))

-- What an edit makes.

abbrev ThereBy : Change → Type 0
ThereBy change = (o : Option Value) → There (change o)

member_at_there : (change : Change) → ThereBy change → (ms : List Member) (i : ℕ) (m : Option Member) → There (member_at change ms i m)
member_at_there change h ms i (Some m) = map_there (member_put ms i m) (change (Some (value_of m))) (h (Some (value_of m)))
member_at_there change h ms i None = λ e. cc

member_there : (change : Change) → ThereBy change → (makes front : Bool) (name : Name) (ms : List Member) (at : Option ℕ) → There (member_changed change makes front name ms at)
member_there change h makes front name ms (Some i) = member_at_there change h ms i (slice_get ms i)
member_there change h makes front name ms None =
    or_there makes (ok_map (with_member front name ms) (change None)) (Err NoSuchPlace) (map_there (with_member front name ms) (change None) (h None)) (λ e. cc)

in_members_there : (change : Change) → ThereBy change → (makes front : Bool) (name : Name) (ms : List Member) → There (in_members change makes front name ms)
in_members_there change h makes front name ms = member_there change h makes front name ms (place_of name ms)

item_at_there : (change : Change) → ThereBy change → (vs : List Value) (i : ℕ) (v : Option Value) → There (item_at change vs i v)
item_at_there change h vs i (Some v) = map_there (item_put vs i) (change (Some v)) (h (Some v))
item_at_there change h vs i None = λ e. cc

in_items_there : (change : Change) → ThereBy change → (makes : Bool) (i : ℕ) (vs : List Value) → There (in_items change makes i vs)
in_items_there change h makes i vs =
    or_there (nat_lt i (length vs)) (item_at change vs i (slice_get vs i)) (if makes && (i == length vs) then ok_map (with_item vs) (change None) else Err OutOfArray)
    (item_at_there change h vs i (slice_get vs i))
    (or_there (makes && (i == length vs)) (ok_map (with_item vs) (change None)) (Err OutOfArray) (map_there (with_item vs) (change None) (h None)) (λ e. cc))

tag_there : (change : Change) → ThereBy change → (vs : List Value) (at : Option ℕ) → There (tag_changed change vs at)
tag_there change h vs (Some i) = item_at_there change h vs i (slice_get vs i)
tag_there change h vs None = λ e. cc

fields_there : (f : List Member → Result (List Member) Rule) → ((ms : List Member) → There (f ms)) → (s : Shape-F Shape Member Value) → There (fields_changed f s)
fields_there f h (layer.Simple text) = λ e. cc
fields_there f h (layer.Uri text) = λ e. cc
fields_there f h (layer.Struct fields) = map_there Struct (f fields) (h fields)
fields_there f h (layer.Array kind items) = λ e. cc

items_there : (f : List Value → Result (List Value) Rule) → ((vs : List Value) → There (f vs)) → (s : Shape-F Shape Member Value) → There (items_changed f s)
items_there f h (layer.Simple text) = λ e. cc
items_there f h (layer.Uri text) = λ e. cc
items_there f h (layer.Struct fields) = λ e. cc
items_there f h (layer.Array kind items) = map_there (Array kind) (f items) (h items)

shape_there : (f : Shape-F Shape Member Value → Result Shape Rule) → ((s : Shape-F Shape Member Value) → There (f s)) → (v : Value) → There (shape_changed f v)
shape_there f h v = map_there (λ s. value s (out-Value v).quals) (f (out-Shape (out-Value v).shape)) (h (out-Shape (out-Value v).shape))

stepped_there : (change : Change) → ThereBy change → (makes : Bool) (s : Step) (v : Value) → There (stepped change makes s v)
stepped_there change h makes (Field name) v = shape_there (fields_changed (in_members change makes false name)) (fields_there (in_members change makes false name) (in_members_there change h makes false name)) v
stepped_there change h makes (Qualifier name) v =
    map_there (value (out-Value v).shape) (in_members change makes (same_name name lang_name) name (out-Value v).quals) (in_members_there change h makes (same_name name lang_name) name (out-Value v).quals)
stepped_there change h makes (Item i) v = shape_there (items_changed (in_items change makes i)) (items_there (in_items change makes i) (in_items_there change h makes i)) v
stepped_there change h makes (Tag tag) v = shape_there (items_changed (in_tagged change tag)) (items_there (in_tagged change tag) (λ vs. tag_there change h vs (tag_place tag vs))) v

value_there : (f : Value → Result Value Rule) → ((v : Value) → There (f v)) → ThereBy (on_value f)
value_there f h (Some v) = map_there Some (f v) (h v)
value_there f h None = λ e. cc

place_there : (ss : List Step) (change : Change) (makes : Bool) → ThereBy change → ThereBy (at_place ss change makes)
place_there [] change makes h = h
place_there (s ∷ ss) change makes h = value_there (stepped (at_place ss change makes) (makes && is_end ss) s) (stepped_there (at_place ss change makes) (place_there ss change makes h) (makes && is_end ss) s)

leaf_there : (new : Shape) (quals : List Member) (s : Shape-F Shape Member Value) → There (leaf_put new quals s)
leaf_there new quals (layer.Simple text) = tt
leaf_there new quals (layer.Uri text) = tt
leaf_there new quals (layer.Struct fields) = λ e. cc
leaf_there new quals (layer.Array kind items) = λ e. cc

set_leaf_there : (new : Shape) → ThereBy (set_leaf new)
set_leaf_there new None = tt
set_leaf_there new (Some v) = leaf_there new (out-Value v).quals (out-Shape (out-Value v).shape)

taken_out_there : ThereBy taken_out
taken_out_there None = λ e. cc
taken_out_there (Some v) = tt

array_stays_there : (kind : Kind) (v : Value) (s : Shape-F Shape Member Value) → There (array_stays kind v s)
array_stays_there kind v (layer.Simple text) = λ e. cc
array_stays_there kind v (layer.Uri text) = λ e. cc
array_stays_there kind v (layer.Struct fields) = λ e. cc
array_stays_there kind v (layer.Array k items) = or_there (same_kind kind k) (Ok (Some v)) (Err WrongShape) tt (λ e. cc)

make_array_there : (kind : Kind) → ThereBy (make_array kind)
make_array_there kind None = tt
make_array_there kind (Some v) = array_stays_there kind v (out-Shape (out-Value v).shape)

struct_stays_there : (v : Value) (s : Shape-F Shape Member Value) → There (struct_stays v s)
struct_stays_there v (layer.Simple text) = λ e. cc
struct_stays_there v (layer.Uri text) = λ e. cc
struct_stays_there v (layer.Struct fields) = tt
struct_stays_there v (layer.Array kind items) = λ e. cc

make_struct_there : ThereBy make_struct
make_struct_there None = tt
make_struct_there (Some v) = struct_stays_there v (out-Shape (out-Value v).shape)

array_put_there : (f : List Value → Result (List Value) Rule) → ((vs : List Value) → There (f vs)) → (quals : List Member) (s : Shape-F Shape Member Value) → There (array_put f quals s)
array_put_there f h quals (layer.Simple text) = λ e. cc
array_put_there f h quals (layer.Uri text) = λ e. cc
array_put_there f h quals (layer.Struct fields) = λ e. cc
array_put_there f h quals (layer.Array kind items) = map_there (λ vs. Some (value (Array kind vs) quals)) (f items) (h items)

in_array_there : (f : List Value → Result (List Value) Rule) → ((vs : List Value) → There (f vs)) → ThereBy (in_array f)
in_array_there f h None = λ e. cc
in_array_there f h (Some v) = array_put_there f h (out-Value v).quals (out-Shape (out-Value v).shape)

said_there : (tag text : List ℕ) (vs : List Value) (at : Option ℕ) → There (said tag text vs at)
said_there tag text vs (Some i) = item_at_there (set_leaf (Simple text)) (set_leaf_there (Simple text)) vs i (slice_get vs i)
said_there tag text vs None = tt

alt_there : (tag text : List ℕ) (quals : List Member) (s : Shape-F Shape Member Value) → There (alt_put tag text quals s)
alt_there tag text quals (layer.Simple t) = λ e. cc
alt_there tag text quals (layer.Uri t) = λ e. cc
alt_there tag text quals (layer.Struct fields) = λ e. cc
alt_there tag text quals (layer.Array kind items) =
    or_there (same_kind kind Alt) (ok_map (λ vs. Some (value (Array Alt vs) quals)) (said tag text items (tag_place tag items))) (Err WrongShape)
    (map_there (λ vs. Some (value (Array Alt vs) quals)) (said tag text items (tag_place tag items)) (said_there tag text items (tag_place tag items))) (λ e. cc)

set_lang_there : (tag text : List ℕ) → ThereBy (set_lang tag text)
set_lang_there tag text None = tt
set_lang_there tag text (Some v) = alt_there tag text (out-Value v).quals (out-Shape (out-Value v).shape)

inserted_there : (at : ℕ) (text : List ℕ) (vs : List Value) → There (inserted at text vs)
inserted_there at text vs = or_there (nat_le at (length vs)) (Ok (insert vs at (simple text))) (Err OutOfArray) tt (λ e. cc)

change_there : (action : Action) → ThereBy (change_of action)
change_there (SetText text) = set_leaf_there (Simple text)
change_there (SetUri uri) = set_leaf_there (Uri uri)
change_there Delete = taken_out_there
change_there (MakeArray kind) = make_array_there kind
change_there MakeStruct = make_struct_there
change_there (Append text) = in_array_there (appended text) (λ vs. tt)
change_there (Insert at text) = in_array_there (inserted at text) (inserted_there at text)
change_there (SetLang tag text) = set_lang_there tag text

edited_there : (e : Edit) (t : Parts) → There (edited e t)
edited_there e t =
    let change : Change = at_place e.path.steps (change_of e.action) (makes e.action) in
    map_there (λ (ms : List Member). let p : Parts = record { about = t.about; props = ms } in p) (in_props e.path (change_of e.action) (makes e.action) t.props)
    (in_members_there change (place_there e.path.steps (change_of e.action) (makes e.action) (change_there e.action)) (makes e.action && is_end e.path.steps) false e.path.name t.props)

carried_there : (next : Parts → Result Parts (Rule × ℕ)) (line : ℕ) (r : Result Parts Rule) → There r → ((t : Parts) → ThereAt (next t)) → ThereAt (carried next line r)
carried_there next line (Ok t) h later = later t
carried_there next line (Err rule) h later = h

pub edits_there : (es : List Edit) (t : Parts) → ThereAt (edits_made es t)
edits_there [] t = tt
edits_there (e ∷ es) t = carried_there (edits_made es) e.line (edited e t) (edited_there e t) (λ x. edits_there es x)
