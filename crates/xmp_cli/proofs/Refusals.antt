-- Which refusals a command that shows a view has.
use Rattle.std.proofs.Common.{◌≡◌, ℕ, ◌≤◌, List, [], length, arith, sym, refl, Ok, Err, Some, None, Bool, true, false, subst, inl, inr, if◌then◌else◌}
use Rattle.std.proofs.lemmas.List.{length-take}
use Rattle.std.specs.declared.option.Option.{Option}
use Rattle.std.specs.declared.result.Result.{Result}
use Rattle.xmp_values.specs.declared.faults.Fault.{Fault}
use Rattle.xmp_values.specs.declared.faults.Part.TheVariants.{Main}
use Rattle.xmp_values.specs.declared.rules.Rule.{Rule}
use Rattle.xmp_values.specs.declared.rules.Rule.TheVariants.{NoFile, Reserved, EditDeep}
use Rattle.xmp_tree.specs.declared.nested.Member.{Member}
use Rattle.xmp_tree.specs.declared.nested.Value.{Value, out-Value}
use Rattle.xmp_tree.specs.declared.nested.Shape.{Shape, Shape-F, out-Shape}
use Rattle.xmp_tree.specs.declared.nested.Shape.TheOpen as layer
use Rattle.xmp_paths.specs.declared.spelling.Spelling.{Spelling}
use Rattle.xmp_paths.specs.Parts.{PathParts, Bindings}
use Rattle.xmp_paths.specs.Grammar.{spelled}
use Rattle.xmp_paths.specs.Paths.{path_of, path_named, path_found, unreserved, not_deep, is_reserved, is_deep}
use Rattle.xmp_paths.specs.Places.{at}
use Rattle.xmp_rdf.specs.declared.meanings.Meaning.{Meaning}
use Rattle.xmp_packets.specs.Packets.{packet_text}
use Rattle.xmp_base.specs.Device.{DeskState, len_of}
use Rattle.xmp_values.specs.Stops.{fault_at}
use Rattle.xmp_files.specs.declared.opening.Opened.{Opened}
use Rattle.xmp_files.specs.Stages.{followed, Followed}
use Rattle.rdf_forms.specs.Merging.{merged}
use Rattle.xmp_files.specs.declared.held.Extended.{Extended}
use Rattle.xmp_files.specs.declared.held.Extended.TheVariants as texts
use Rattle.xmp_files.specs.Keeping.{Piece, Kept}
use Rattle.xmp_files.specs.Loads.{PayloadLies}
use Rattle.xmp_files.specs.Meanings.{Means, OpensMain, in_main, no_meaning}
use Rattle.xmp_files.specs.Opening.{IsJoinedTo, IsJoined, IsOpened, alone, merged_to, with_both}
use Rattle.xmp_files.proofs.NeverMissing.{opened_there}
use Rattle.xmp_cli.specs.Answer.{seen}
use Rattle.xmp_cli.specs.declared.status.Status.TheVariants.{Refused}
use Rattle.xmp_cli.specs.declared.views.View.{View}
use Rattle.xmp_cli.specs.declared.views.View.TheVariants as views
use Rattle.xmp_cli.specs.Commands.{Command}
use Rattle.xmp_cli.specs.Order.{path_step, shape_text, value_text, get_text, shown_tree}
use Rattle.xmp_cli.specs.Run.{IsPacketRefusal, IsExtendedRefusal, too_long, gap, faulty, twice, IsFileRefusal, IsPathRefusal, IsRefusal, Refuses}
use Rattle.xmp_cli.specs.Steps.{view_of, shows}

pub same_fault : (f g : Fault) → Refused f ≡ Refused g → f ≡ g
same_fault f g e = cc

pub refuses : (c : Option Command) (t : DeskState) (f : Fault) → IsRefusal c t f → Refuses c t (Refused f)
refuses c t f h g e = subst (IsRefusal c t) (same_fault f g e) h

same_error : {A : Type 0} (f g : Fault) → (let r : Result A Fault = Err f in r) ≡ Err g → f ≡ g
same_error f g e = cc

-- a step refuses as the path and what is there do
abbrev Stops : {A : Type 0} → Result A Fault → Type 0
Stops (Ok x) = Unit {0}
Stops (Err fault) = IsPathRefusal fault

deep_stops : (deep : Bool) (path : PathParts) → Stops (path_step (if deep then Err EditDeep else Ok path))
deep_stops true path = inr (inr (inr (inl refl)))
deep_stops false path = tt

allowed_stops : (reserved : Bool) (path : PathParts) → Stops (path_step (not_deep (if reserved then Err Reserved else Ok path)))
allowed_stops true path = inr (inr (inl refl))
allowed_stops false path = deep_stops (is_deep 0 path) path

found_stops : (found : Option PathParts) → Stops (path_step (not_deep (unreserved found)))
found_stops None = inr (inl refl)
found_stops (Some path) = allowed_stops (is_reserved path) path

named_stops : (b : Bindings) (spelling : Option Spelling) → Stops (path_step (not_deep (path_named b spelling)))
named_stops b None = inl refl
named_stops b (Some s) = found_stops (path_found b s)

shape_stops : (m : Meaning) (place : PathParts) (shape : Shape-F Shape Member Value) → Stops (shape_text m place shape)
shape_stops m place (layer.Simple text) = tt
shape_stops m place (layer.Uri text) = tt
shape_stops m place (layer.Struct fields) = tt
shape_stops m place (layer.Array kind items) = tt

value_stops : (m : Meaning) (place : PathParts) (value : Option Value) → Stops (value_text m place value)
value_stops m place None = inr (inr (inr (inr refl)))
value_stops m place (Some value) = shape_stops m place (out-Shape (out-Value value).shape)

followed_stops : (path : Result PathParts Fault) (next : PathParts → Result (List ℕ) Fault) → Stops path → ((p : PathParts) → Stops (next p)) → Stops (followed path next)
followed_stops (Ok path) next h later = later path
followed_stops (Err fault) next h later = h

get_stops : (path : List ℕ) (m : Meaning) → Stops (get_text path m)
unfolding get_text
get_stops path m = followed_stops (path_step (path_of m.hints path)) (λ place. value_text m place (at m.tree place))
    (named_stops (record { lines = []; hints = m.hints }) (spelled path)) (λ place. value_stops m place (at m.tree place))

stopped : (step : Result (List ℕ) Fault) (fault : Fault) → Stops step → step ≡ Err fault → IsPathRefusal fault
stopped (Ok text) fault h e = absurd (let bad : Ok text ≡ Err fault = e in cc)
stopped (Err f) fault h e = subst IsPathRefusal (same_error f fault e) h

tree_gives : (m : Meaning) (fault : Fault) → shown_tree m ≡ Err fault → ⊥
unfolding shown_tree
tree_gives m fault e = cc

view_refuses : (file : List ℕ) (view : View) (t : DeskState) (m : Meaning) (fault : Fault) → view_of view m ≡ Err fault
    → IsRefusal (Some (shows file view)) t fault × (fault.rule ≡ NoFile → ⊥)
view_refuses file (views.Value path) t m fault e = let is = stopped (get_text path.now m) fault (get_stops path.now m) e in (inr is, path_there fault is)
  where
    path_there : (f : Fault) → IsPathRefusal f → f.rule ≡ NoFile → ⊥
    path_there f (inl e) rule = cc
    path_there f (inr (inl e)) rule = cc
    path_there f (inr (inr (inl e))) rule = cc
    path_there f (inr (inr (inr (inl e)))) rule = cc
    path_there f (inr (inr (inr (inr e)))) rule = cc
view_refuses file views.Tree t m fault e = absurd (tree_gives m fault e)

pub file_refuses : (file : List ℕ) (view : View) (t : DeskState) (fault : Fault) → IsFileRefusal (len_of t file) fault → IsRefusal (Some (shows file view)) t fault
file_refuses file (views.Value path) t fault h = inl h
file_refuses file views.Tree t fault h = h

text_short : (payload : List ℕ) → length (packet_text payload) ≤ length payload
text_short payload = omega (arith, length-take {A = ℕ})

read_refuses : (size : ℕ) (text : List ℕ) (read : Result Meaning (Rule × ℕ)) (fault : Fault) → length text ≤ size → Means text read
    → (let e : Result Meaning Fault = Err fault in e) ≡ in_main read → IsPacketRefusal size fault
read_refuses size text (Ok m) fault short means e = absurd (let bad : Err fault ≡ Ok m = e in cc)
read_refuses size text (Err (rule, place)) fault short means e = record {
  text = text;
  short = short;
  rule = rule;
  place = place;
  means = means;
  is = same_error fault (fault_at rule Main place) e;
}

main_refuses : (size : ℕ) (payload : Option Piece) (fault : Fault) → PayloadLies size payload → OpensMain payload (Err fault) → IsPacketRefusal size fault
main_refuses size None fault lies opens = absurd (let bad : Err fault ≡ Ok no_meaning = opens in cc)
main_refuses size (Some piece) fault lies opens =
    read_refuses size (packet_text piece.bytes) opens.0 fault (omega (arith, lies.0, text_short piece.bytes)) opens.1 opens.2

-- an extended text is refused as its portions and its text are

merged_refuses : (text : List ℕ) (main : Meaning) (read : Result Meaning (Rule × ℕ)) (fault : Fault) → Means text read → (let e : Result Opened Fault = Err fault in e) ≡ merged_to main read → IsExtendedRefusal fault
merged_refuses text main (Ok more) fault means is = both_refuses (merged main more) is
  where
    both_refuses : (both : Result Meaning ℕ) → (let e : Result Opened Fault = Err fault in e) ≡ with_both both → IsExtendedRefusal fault
    both_refuses (Ok both) e = absurd (cc e)
    both_refuses (Err place) e = twice place (cc e)
merged_refuses text main (Err (rule, place)) fault means is = faulty text rule place means (cc is)

extended_refuses : (extended : Option Extended) (main : Meaning) (fault : Fault) → IsJoinedTo extended main (Err fault) → IsExtendedRefusal fault
extended_refuses None main fault is = absurd (let bad : Err fault ≡ Ok (alone main) = is in cc)
extended_refuses (Some (texts.TooLong full)) main fault is = too_long full (cc is)
extended_refuses (Some (texts.Gap place)) main fault is = gap place (cc is)
extended_refuses (Some (texts.Joined text)) main fault is = merged_refuses text main is.0 fault is.1 is.2

pub joined_refuses : (size : ℕ) (kept : Kept) (main : Result Meaning Fault) (fault : Fault) → PayloadLies size kept.payload → OpensMain kept.payload main
    → Followed main (IsJoined kept) (Err fault) → IsFileRefusal size fault
joined_refuses size kept (Ok meaning) fault lies opens is = inr (inr (inr (extended_refuses kept.extended meaning fault is)))
joined_refuses size kept (Err f) fault lies opens is =
    inr (inr (inl (main_refuses size kept.payload fault lies (subst (λ (g : Fault). OpensMain kept.payload (Err g)) (sym (opened_error fault f is)) opens))))
  where
    opened_error : (f g : Fault) → (let r : Result Opened Fault = Err f in r) ≡ Err g → f ≡ g
    opened_error f g e = cc

-- a view of what is kept refuses as its packet, the path and what is there do
pub step_refuses : (file : List ℕ) (view : View) (t : DeskState) (kept : Kept) (step : Result Opened Fault) (fault : Fault) → PayloadLies (len_of t file) kept.payload
    → IsOpened kept step → seen (view_of view) step ≡ Err fault → IsRefusal (Some (shows file view)) t fault × (fault.rule ≡ NoFile → ⊥)
step_refuses file view t kept (Ok opened) fault lies opens e = view_refuses file view t opened.meaning fault e
step_refuses file view t kept (Err f) fault lies opens e =
    let same : f ≡ fault = same_error f fault e in
    let is = subst (λ (g : Fault). IsOpened kept (Err g)) same opens in
    (file_refuses file view t fault (joined_refuses (len_of t file) kept is.0 fault lies is.1 is.2), opened_there kept fault is)
