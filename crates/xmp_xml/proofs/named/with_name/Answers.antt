use Rattle.std.proofs.Common.{◌≡◌, ◌+◌, ◌∙◌, ℕ, List, Option, Some, ap, subst}
use Rattle.std.specs.Prelude.{is_some, if◌then◌else◌}
use Rattle.std.specs.BTreeMap.{btree_map_len}
use Rattle.std.specs.Str.{bytes_eq}
use Rattle.xmp_xml.specs.Named.{named_at}
use Rattle.xmp_xml.proofs.Naming.{named_updates}
use Rattle.xmp_xml.proofs.named.with_name.Goals as goal

pub returns-clause-puts : goal.returns-clause-puts
returns-clause-puts c =
    let name : c.into_vec.result.items ≡ c.args.name.now = c.into_vec.ensures ∙ c.in_ok-from_slice.ensures in
    subst (λ (n : List ℕ). (q : List ℕ) → named_at c.insert.new.self q ≡ (if bytes_eq n q then Some c.args.number else named_at c.args.map q)) name
    (named_updates c.into_vec.result.items c.args.map c.insert.new.self (Some c.args.number) c.in_ok-insert.ensures.updates)

pub returns-clause-len : goal.returns-clause-len
returns-clause-len c =
    let name : c.into_vec.result.items ≡ c.args.name.now = c.into_vec.ensures ∙ c.in_ok-from_slice.ensures in
    c.in_ok-insert.ensures.len ∙ ap (λ (o : Option ℕ). btree_map_len c.args.map + (if is_some o then 0 else 1)) (c.in_ok-insert.ensures.old ∙ ap (named_at c.args.map) name)
