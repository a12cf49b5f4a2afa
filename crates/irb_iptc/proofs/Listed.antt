-- Datasets one after another.
use Rattle.std.proofs.Common.{◌≡◌, ℕ, ◌+◌, ◌≤◌, List, [], ◌∷◌, ◌++◌, length, drop, map, refl, sym, ap, ◌∙◌, arith, append_assoc, append-nil}
use Rattle.std.specs.Prelude.{flat_map}
use Rattle.std.specs.List.{AllByRecursion}
use Rattle.std.proofs.lemmas.List.{length-append, map_push}
use Rattle.std.proofs.lemmas.List.Elements.{All-push, All-nil}
use Rattle.xmp_values.specs.declared.rules.Rule.{Rule}
use Rattle.irb_iptc.specs.declared.entry.Entry.{Entry}
use Rattle.irb_iptc.specs.Datasets.{Dataset, Field, Iptc, Fails, Breaks, IsDataset, EndsBlock, text, field}
use Rattle.irb_iptc.specs.Entries.{IsEntry, IsWithin, Underway, field_of}

-- nothing has been read
pub underway_none : (block : List ℕ) → Underway block [] 0
underway_none block = record { datasets = []; bytes = refl; place = refl; each = tt; listed = refl; inside = All-nil (IsWithin (length block)) }

each_more : (ds : List Dataset) (d : Dataset) → AllByRecursion IsDataset ds → IsDataset d → AllByRecursion IsDataset (ds ++ d ∷ [])
each_more [] d a h = (h, tt)
each_more (x ∷ ds) d a h = (a.0, each_more ds d a.1 h)

joined : (ds : List Dataset) (d : Dataset) → flat_map text (ds ++ d ∷ []) ≡ flat_map text ds ++ text d
joined [] d = append-nil (text d)
joined (x ∷ ds) d = ap (λ (l : List ℕ). text x ++ l) (joined ds d) ∙ sym (append_assoc (text x) (flat_map text ds) (text d))

module _ (block : List ℕ) (entries : List Entry) (at : ℕ) (u : Underway block entries at) where
  pub underway_more : (e : Entry) → IsEntry block at e → e.start + e.len ≤ length block → Underway block (entries ++ e ∷ []) (e.start + e.len)
  underway_more e i w = record {
    datasets = u.datasets ++ i.dataset ∷ [];
    bytes = u.bytes ∙ ap (λ (l : List ℕ). flat_map text u.datasets ++ l) i.bytes
        ∙ sym (append_assoc (flat_map text u.datasets) (text i.dataset) (drop (e.start + e.len) block))
        ∙ ap (λ (l : List ℕ). l ++ drop (e.start + e.len) block) (sym (joined u.datasets i.dataset));
    place = omega (arith, i.place, u.place, ap length (joined u.datasets i.dataset), length-append (flat_map text u.datasets) (text i.dataset));
    each = each_more u.datasets i.dataset u.each i.is;
    listed = map_push (field_of block) entries e ∙ ap (λ fs. fs ++ field_of block e ∷ []) u.listed ∙ ap (λ (f : Field). map field u.datasets ++ f ∷ []) i.field
        ∙ sym (map_push field u.datasets i.dataset);
    inside = All-push (IsWithin (length block)) entries e u.inside w;
  }

  pub listed_here : EndsBlock (drop at block) → Iptc block (map (field_of block) entries)
  listed_here e = record { datasets = u.datasets; tail = drop at block; bytes = u.bytes; each = u.each; ends = e; listed = u.listed }

  pub fails_here : (rule : Rule) → Breaks (drop at block) rule → Fails block rule at
  fails_here rule b = record { datasets = u.datasets; rest = drop at block; bytes = u.bytes; each = u.each; breaks = b; start = u.place }
