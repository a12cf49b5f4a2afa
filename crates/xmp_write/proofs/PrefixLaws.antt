-- The law on the prefixes of a text.
use Rattle.std.proofs.Common.{◌≡◌, ◌≢◌, ℕ, Bool, true, false, cond, ◌||◌, List, [], ◌∷◌, length, get_or, Some, refl, sym, ap, subst, ◌∙◌, arith}
use Rattle.std.specs.Prelude.{All, AllPairs}
use Rattle.std.specs.List.{list_any}
use Rattle.std.specs.Str.{bytes_eq}
use Rattle.std.proofs.lemmas.List.{get_or-map, length-map}
use Rattle.std.proofs.lemmas.List.Elements.{All-nil}
use Rattle.xmp_values.specs.Characters.{IsCharText}
use Rattle.xmp_values.specs.Hints.{AreValid}
use Rattle.xmp_values.specs.declared.hints.Hint.{Hint}
use Rattle.known_prefixes.specs.Prefixes.{is_fixed}
use Rattle.xmp_tree.specs.Parts.{Parts}
use Rattle.xmp_tree.specs.Wf.{IsOwnSpace, Wf}
use Rattle.xmp_write.specs.declared.forms.Form.{Form}
use Rattle.xmp_write.specs.Written.{written_spaces}
use Rattle.xmp_write.specs.Prefixes.{prefix_in, prefixes, declared_spaces}
use Rattle.xmp_write.specs.PrefixLaws.{AreDeclared, PrefixLaw, AreFew}
use Rattle.xmp_write.proofs.OwnNames.{written_owned}
use Rattle.xmp_write.proofs.DeclaredSpaces.{AreUses, uses_kept, all_used}
use Rattle.xmp_write.proofs.KnownRows.{IsFree}
use Rattle.xmp_write.proofs.KeptPrefixes.{AreGiven, given_kept}
use Rattle.xmp_write.specs.Prefixes.{spaces_in}
use Rattle.xmp_write.proofs.PlaceMaps.{spaces_in-given}

-- a namespace of a list has a prefix there
pub listed : (ps : List Hint) (space : List ℕ) → list_any (bytes_eq space) (spaces_in ps) ≡ true → (prefix : List ℕ) × (prefix_in ps space ≡ Some prefix)
listed [] space is = absurd cc
listed (h ∷ hs) space is = by (bytes_eq space h.space) is (listed hs space)
  where
    by : (b : Bool) → (b || list_any (bytes_eq space) (spaces_in hs)) ≡ true → (list_any (bytes_eq space) (spaces_in hs) ≡ true → (prefix : List ℕ) × (prefix_in hs space ≡ Some prefix))
        → (prefix : List ℕ) × (cond b (Some h.prefix) (prefix_in hs space) ≡ Some prefix)
    by true is rest = (h.prefix, refl)
    by false is rest = rest is

module _ (t : Parts) (hints : List Hint) (form : Form) (wf : Wf t) (valid : AreValid hints) (few : AreFew t hints form) where
  abbrev spaces : List (List ℕ)
  spaces = declared_spaces t form

  abbrev ps : List Hint
  ps = prefixes t hints form

  the_spaces : spaces_in ps ≡ spaces
  the_spaces = spaces_in-given hints [] spaces

  used : AreUses (λ s. IsOwnSpace s × IsCharText s) spaces
  used = uses_kept (λ s. IsOwnSpace s × IsCharText s) (written_spaces t form) []
      (record { unfixed = All-nil (λ s. is_fixed s ≡ false); each = All-nil (λ s. IsOwnSpace s × IsCharText s); apart = λ i j d lt within. absurd (omega arith) })
      (written_owned t form wf)

  counted : length ps ≡ length spaces
  counted = sym (length-map ps (λ (h : Hint). h.space)) ∙ ap length the_spaces

  given : AreGiven ps
  given = given_kept hints (λ k d within. (valid.each k d within).named) spaces []
      (record { free = All-nil (λ h. IsFree h.prefix); known = λ k d within. absurd (omega arith); apart = λ i j d lt within. absurd (omega arith) })
      used.unfixed used.apart (omega (arith, few, counted))

  at_place : (P : List ℕ → Type 0) → All P spaces → All (λ h. P h.space) ps
  at_place P each k d within =
      subst P (get_or-map (λ (h : Hint). h.space) ps k d d.space within) (subst (All P) (sym the_spaces) each k d.space (omega (arith, length-map ps (λ (h : Hint). h.space))))

  declared : AreDeclared ps
  declared = record {
    each = λ k d within.
        let free = given.free k d within in
        let own = at_place (λ s. IsOwnSpace s × IsCharText s) used.each k d within in record {
          named = free.named;
          chars = own.1;
          own = own.0;
          unfixed = at_place (λ s. is_fixed s ≡ false) used.unfixed k d within;
          not_rdf = free.not_rdf;
          not_x = free.not_x;
          not_xml = free.not_xml;
        };
    spaces_apart = λ i j d lt within same.
        let first = get_or-map (λ (h : Hint). h.space) ps i d d.space (omega arith) in
        let second = get_or-map (λ (h : Hint). h.space) ps j d d.space within in
        subst (AllPairs (λ a b. a ≢ b)) (sym the_spaces) used.apart i j d.space lt (omega (arith, length-map ps (λ (h : Hint). h.space))) (first ∙ same ∙ sym second);
    prefixes_apart = given.apart;
  }

  pub prefix_law : PrefixLaw t hints form
  prefix_law = record {
    declared = declared;
    bound = λ k d within unfixed.
        let space = get_or (written_spaces t form) k d in
        listed ps space (ap (list_any (bytes_eq space)) the_spaces ∙ all_used (written_spaces t form) [] k d within unfixed);
  }
