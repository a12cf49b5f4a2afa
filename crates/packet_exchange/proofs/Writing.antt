-- Writes of an exchange: of the first byte of a payload, and of those from the first difference on.
use Rattle.std.proofs.Common.{◌≡◌, ◌⊎◌, ℕ, ◌+◌, List, [], ◌++◌, Some, ap, sym, ◌∙◌, inl, inr, append_assoc}
use Rattle.std.specs.declared.option.Option.{Option}
use Rattle.std.proofs.lemmas.List.{append-nil}
use Rattle.std.proofs.lemmas.List.Elements.{All-append, All-nil, All-weaker}
use Rattle.xmp_base.specs.Device.{Moved}
use Rattle.xmp_base.specs.Windows.{IsInside, MovesInside}
use Rattle.packet_exchange.specs.Closing.{IsFirstOrFrom, WritesFrom}

module _ (name : List ℕ) (at from size : ℕ) (old : Option (List Moved)) where
  pub writes_none : (new : Option (List Moved)) → new ≡ old → WritesFrom name at from size old new
  writes_none new e = λ moves told. ([], e ∙ told ∙ ap Some (sym (append-nil moves)), All-nil (IsFirstOrFrom name at from size))

  pub first_writes : (new : Option (List Moved)) → MovesInside name at (at + 1) old new → WritesFrom name at from size old new
  first_writes new a = λ moves told. let m = a moves told in (m.0, m.1, All-weaker (IsInside name at (at + 1)) (IsFirstOrFrom name at from size) (λ x i. inl i) m.0 m.2)

  pub rest_writes : (new : Option (List Moved)) → MovesInside name (at + from) (at + size) old new → WritesFrom name at from size old new
  rest_writes new a = λ moves told. let m = a moves told in (m.0, m.1, All-weaker (IsInside name (at + from) (at + size)) (IsFirstOrFrom name at from size) (λ x i. inr i) m.0 m.2)

  pub writes_trans : (mid new : Option (List Moved)) → WritesFrom name at from size old mid → WritesFrom name at from size mid new → WritesFrom name at from size old new
  writes_trans mid new a b = λ moves told. let m = a moves told in let n = b _ m.1 in
      (m.0 ++ n.0, n.1 ∙ ap Some (append_assoc moves m.0 n.0), All-append (IsFirstOrFrom name at from size) m.0 n.0 m.2 n.2)
