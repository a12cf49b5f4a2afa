-- An edit of an allowed path keeps a tree well-formed.
use Rattle.std.proofs.Common.{◌≡◌, ◌≢◌, ◌∙◌, suc, Bool, false, ◌&&◌, List, take, drop, sym, subst}
use Rattle.std.specs.Prelude.{All, Result, Ok, Err}
use Rattle.std.proofs.lemmas.List.Elements.{All-set, All-push, All-append, All-take, All-drop}
use Rattle.xmp_values.specs.declared.text.Name.{Name}
use Rattle.xmp_values.specs.declared.rules.Rule.{Rule}
use Rattle.xmp_tree.specs.declared.nested.Member.{Member}
use Rattle.xmp_tree.specs.Parts.{Parts, member}
use Rattle.xmp_tree.specs.Wf.{name_of, AreWellFormed, Wf, note_name}
use Rattle.xmp_tree.proofs.Made.{name-member}
use Rattle.xmp_paths.specs.declared.step.Step.TheVariants.{Field}
use Rattle.xmp_edit.specs.Edits.{Change, ok_map, at_place, in_members, in_props, changed}
use Rattle.xmp_paths.specs.Paths.{is_end}
use Rattle.xmp_paths.specs.Parts.{PathParts}
use Rattle.xmp_paths.specs.Allowed.{IsAllowedPath}
use Rattle.xmp_edit.specs.Actions.{change_of, makes}
use Rattle.xmp_edit.specs.Allowed.{IsAllowed, KeepsLast, IfGiven}
use Rattle.xmp_edit.specs.declared.edit.Edit.{Edit}
use Rattle.xmp_edit.specs.Law.{EditKeeps}
use Rattle.xmp_edit.proofs.Members.{kept_members, nothing_kept}
use Rattle.xmp_edit.proofs.Kept.{keeps_last}
use Rattle.xmp_edit.proofs.Steps.{fields_kept, place_kept}

-- the note stays out
pub no_note : (n : Name) → n ≢ note_name → (change : Change) (makes : Bool) (ms : List Member) → All (λ m. name_of m ≢ note_name) ms →
    IfGiven (All (λ m. name_of m ≢ note_name)) (in_members change makes false n ms)
no_note n other change makes ms none =
    let P = λ (m : Member). name_of m ≢ note_name in
    kept_members (All P) (λ v. Unit {0}) false n ms none
    (λ i m lt here same. tt)
    (λ i m lt here same v h. All-set P ms i (member (name_of m) v) (λ e. other (sym same ∙ sym (name-member (name_of m) v) ∙ e)) none)
    (λ i lt. All-append P (take i ms) (drop (suc i) ms) (All-take P i ms none) (All-drop P (suc i) ms none))
    (λ new v h. All-push P ms (member n v) none (λ e. other (sym (name-member n v) ∙ e)))
    change (λ o h. nothing_kept (change o)) makes

whole : (t : Parts) → Wf t → (r : Result (List Member) Rule) → IfGiven (AreWellFormed 24) r → IfGiven (All (λ m. name_of m ≢ note_name)) r →
    IfGiven Wf (ok_map (λ ms. record { about = t.about; props = ms }) r)
whole t wf (Ok ms) formed none = record { about = wf.about; props = formed; note = none }
whole t wf (Err e) formed none = tt

pub path_kept : (p : PathParts) (change : Change) (makes : Bool) (t : Parts) → IsAllowedPath p → KeepsLast p.steps 24 (Field p.name) change → Wf t → IfGiven Wf (changed p change makes t)
path_kept p change makes t allowed keeps wf =
    whole t wf (in_props p change makes t.props)
    (fields_kept 24 p.name (at_place p.steps change makes) (makes && is_end p.steps) allowed.first (place_kept p.steps (Field p.name) 24 change makes allowed.first allowed.steps keeps) t.props wf.props)
    (no_note p.name allowed.other (at_place p.steps change makes) (makes && is_end p.steps) t.props wf.note)

pub edit_kept : EditKeeps
edit_kept e t allowed wf = path_kept e.path (change_of e.action) (makes e.action) t allowed.path (keeps_last e allowed) wf

-- the tree of the properties that an allowed edit gives
pub edited_tree : (e : Edit) (t : Parts) (props : List Member) → IsAllowed e → Wf t → in_props e.path (change_of e.action) (makes e.action) t.props ≡ Ok props → Wf record { about = t.about; props = props }
edited_tree e t props allowed wf gives =
    let rebuilt : List Member → Parts = λ ms. record { about = t.about; props = ms } in
    subst (λ (r : Result (List Member) Rule). IfGiven Wf (ok_map rebuilt r)) gives (edit_kept e t allowed wf)
