-- Two ways to cut one list in two.
use Rattle.std.proofs.Common.{◌≡◌, ◌≢◌, ℕ, Bool, true, false, ◌&&◌, ◌⊎◌, List, [], ◌∷◌, ◌++◌, refl, sym, ap, subst, ◌∙◌, append_assoc, append-nil, inl, inr, arith}
use Rattle.std.specs.Prelude.{IsTrue, IsFalse, codes}
use Rattle.std.specs.List.{list_all}
use Rattle.std.proofs.lemmas.List.Folds.{list_all-append}
use Rattle.std.proofs.lemmas.List.{append_cancel_left}
use Rattle.xml_grammar.specs.Spelling.{Lacks}

pub both : (a b : Bool) → (a && b) ≡ true → (a ≡ true) × (b ≡ true)
both true b e = (refl, e)
both false b e = absurd cc

pub both_again : (a b : Bool) → a ≡ true → b ≡ true → (a && b) ≡ true
both_again true b e f = f
both_again false b e f = absurd cc

pub all_head : (p : ℕ → Bool) (x : ℕ) (xs : List ℕ) → IsTrue (list_all p (x ∷ xs)) → IsTrue (p x)
all_head p x xs h = (both (p x) (list_all p xs) h).0

pub all_tail : (p : ℕ → Bool) (x : ℕ) (xs : List ℕ) → IsTrue (list_all p (x ∷ xs)) → IsTrue (list_all p xs)
all_tail p x xs h = (both (p x) (list_all p xs) h).1

pub all_cons : (p : ℕ → Bool) (x : ℕ) (xs : List ℕ) → IsTrue (p x) → IsTrue (list_all p xs) → IsTrue (list_all p (x ∷ xs))
all_cons p x xs h t = both_again (p x) (list_all p xs) h t

pub all_append : (p : ℕ → Bool) (xs ys : List ℕ) → IsTrue (list_all p xs) → IsTrue (list_all p ys) → IsTrue (list_all p (xs ++ ys))
all_append p xs ys h t = list_all-append p xs ys ∙ both_again (list_all p xs) (list_all p ys) h t

pub all_weaker : (p q : ℕ → Bool) → ((x : ℕ) → IsTrue (p x) → IsTrue (q x)) → (xs : List ℕ) → IsTrue (list_all p xs) → IsTrue (list_all q xs)
all_weaker p q weaker [] h = refl
all_weaker p q weaker (x ∷ xs) h = all_cons q x xs (weaker x (all_head p x xs h)) (all_weaker p q weaker xs (all_tail p x xs h))

pub cons_same : (x y : ℕ) (a b : List ℕ) → x ≡ y → a ≡ b → x ∷ a ≡ y ∷ b
cons_same x y a b h t = cc

pub head_same : (x y : ℕ) (xs ys : List ℕ) → x ∷ xs ≡ y ∷ ys → x ≡ y
head_same x y xs ys e = cc

pub tail_same : (x y : ℕ) (xs ys : List ℕ) → x ∷ xs ≡ y ∷ ys → xs ≡ ys
tail_same x y xs ys e = cc

pub not_both : (b : Bool) → b ≡ true → b ≡ false → ⊥
not_both b e f = cc

-- the list is empty, or its first element fails the test
abbrev pub Stops : (ℕ → Bool) → List ℕ → Type 0
Stops p [] = Unit {0}
Stops p (x ∷ xs) = IsFalse (p x)

-- a run ends where the first element fails
pub run_same : (p : ℕ → Bool) (a b c d : List ℕ) → IsTrue (list_all p a) → IsTrue (list_all p b) → Stops p c → Stops p d → a ++ c ≡ b ++ d → (a ≡ b) × (c ≡ d)
run_same p [] [] c d ha hb sc sd e = (refl, e)
run_same p [] (y ∷ b) [] d ha hb sc sd e = absurd cc
run_same p [] (y ∷ b) (x ∷ c) d ha hb sc sd e = absurd (not_both (p y) (all_head p y b hb) (subst (λ (z : ℕ). p z ≡ false) (head_same x y c (b ++ d) e) sc))
run_same p (x ∷ a) [] c [] ha hb sc sd e = absurd cc
run_same p (x ∷ a) [] c (y ∷ d) ha hb sc sd e = absurd (not_both (p x) (all_head p x a ha) (subst (λ (z : ℕ). p z ≡ false) (sym (head_same x y (a ++ c) d e)) sd))
run_same p (x ∷ a) (y ∷ b) c d ha hb sc sd e =
    let r = run_same p a b c d (all_tail p x a ha) (all_tail p y b hb) sc sd (tail_same x y (a ++ c) (b ++ d) e) in
    let h : x ≡ y = head_same x y (a ++ c) (b ++ d) e in
    (cons_same x y a b h (r.0), r.1)

-- one front begins the other
abbrev pub Longer : List ℕ → List ℕ → List ℕ → List ℕ → Type 0
Longer a c b d = (more : List ℕ) × (b ≡ a ++ more) × (c ≡ more ++ d)

pub overlap : (a c b d : List ℕ) → a ++ c ≡ b ++ d → Longer a c b d ⊎ Longer b d a c
overlap [] c b d e = inl (b, refl, e)
overlap (x ∷ a) c [] d e = inr (x ∷ a, refl, sym e)
overlap (x ∷ a) c (y ∷ b) d e = further (overlap a c b d (tail_same x y (a ++ c) (b ++ d) e))
  where
    h : x ≡ y
    h = head_same x y (a ++ c) (b ++ d) e

    further : Longer a c b d ⊎ Longer b d a c → Longer (x ∷ a) c (y ∷ b) d ⊎ Longer (y ∷ b) d (x ∷ a) c
    further (inl (more, is, left)) = inl (more, cc, left)
    further (inr (more, is, left)) = inr (more, cc, left)

-- ---- text up to a terminator

-- an end of two different characters
two_end : (m n : ℕ) (a c b d more : List ℕ) → m ≢ n → b ≡ a ++ more → m ∷ n ∷ c ≡ more ++ m ∷ n ∷ d → Lacks (m ∷ n ∷ []) b → more ≡ []
two_end m n a c b d [] ne is e lacks = refl
two_end m n a c b d (x ∷ []) ne is e lacks = absurd (ne (sym (head_same n m c (n ∷ d) (tail_same m x (n ∷ c) (m ∷ n ∷ d) e))))
two_end m n a c b d (x ∷ y ∷ more) ne is e lacks =
    let t : n ∷ c ≡ y ∷ (more ++ m ∷ n ∷ d) = tail_same m x (n ∷ c) (y ∷ (more ++ m ∷ n ∷ d)) e in
    let hx : m ≡ x = head_same m x (n ∷ c) (y ∷ (more ++ m ∷ n ∷ d)) e in
    let hy : n ≡ y = head_same n y c (more ++ m ∷ n ∷ d) t in
    absurd (lacks a more (is ∙ ap (λ (t : List ℕ). a ++ t) (cons_same x m (y ∷ more) (n ∷ more) (sym hx) (cons_same y n more more (sym hy) refl)) ∙ sym (append_assoc a (m ∷ n ∷ []) more)))

-- an end of one character twice, and another
three_end : (m n : ℕ) (a c b d more : List ℕ) → m ≢ n → b ≡ a ++ more → m ∷ m ∷ n ∷ c ≡ more ++ m ∷ m ∷ n ∷ d → Lacks (m ∷ m ∷ n ∷ []) b → more ≡ []
three_end m n a c b d [] ne is e lacks = refl
three_end m n a c b d (x ∷ []) ne is e lacks = absurd (ne (sym (head_same n m c (n ∷ d) (tail_same m m (n ∷ c) (m ∷ n ∷ d) (tail_same m x (m ∷ n ∷ c) (m ∷ m ∷ n ∷ d) e)))))
three_end m n a c b d (x ∷ y ∷ []) ne is e lacks = absurd (ne (sym (head_same n m c (m ∷ n ∷ d) (tail_same m y (n ∷ c) (m ∷ m ∷ n ∷ d) (tail_same m x (m ∷ n ∷ c) (y ∷ m ∷ m ∷ n ∷ d) e)))))
three_end m n a c b d (x ∷ y ∷ z ∷ more) ne is e lacks =
    let after : List ℕ = more ++ m ∷ m ∷ n ∷ d in
    let t : m ∷ n ∷ c ≡ y ∷ z ∷ after = tail_same m x (m ∷ n ∷ c) (y ∷ z ∷ after) e in
    let u : n ∷ c ≡ z ∷ after = tail_same m y (n ∷ c) (z ∷ after) t in
    let hx : m ≡ x = head_same m x (m ∷ n ∷ c) (y ∷ z ∷ after) e in
    let hy : m ≡ y = head_same m y (n ∷ c) (z ∷ after) t in
    let hz : n ≡ z = head_same n z c after u in
    absurd (lacks a more (is ∙ ap (λ (t : List ℕ). a ++ t) (cons_same x m (y ∷ z ∷ more) (m ∷ n ∷ more) (sym hx) (cons_same y m (z ∷ more) (n ∷ more) (sym hy) (cons_same z n more more (sym hz) refl))) ∙ sym (append_assoc a (m ∷ m ∷ n ∷ []) more)))

-- an end of one character twice, which what is before it doesn't end with
twin_end : (m : ℕ) (a c b d more : List ℕ) → b ≡ a ++ more → m ∷ m ∷ c ≡ more ++ m ∷ m ∷ d → Lacks (m ∷ m ∷ []) (b ++ m ∷ []) → more ≡ []
twin_end m a c b d [] is e lacks = refl
twin_end m a c b d (x ∷ []) is e lacks =
    let hx : m ≡ x = head_same m x (m ∷ c) (m ∷ m ∷ d) e in
    absurd (lacks a [] (ap (λ (t : List ℕ). t ++ m ∷ []) is ∙ append_assoc a (x ∷ []) (m ∷ []) ∙ ap (λ (t : List ℕ). a ++ t) (cons_same x m (m ∷ []) (m ∷ []) (sym hx) refl) ∙ sym (append-nil (a ++ m ∷ m ∷ []))))
twin_end m a c b d (x ∷ y ∷ more) is e lacks =
    let t : m ∷ c ≡ y ∷ (more ++ m ∷ m ∷ d) = tail_same m x (m ∷ c) (y ∷ (more ++ m ∷ m ∷ d)) e in
    let hx : m ≡ x = head_same m x (m ∷ c) (y ∷ (more ++ m ∷ m ∷ d)) e in
    let hy : m ≡ y = head_same m y c (more ++ m ∷ m ∷ d) t in
    absurd (lacks a (more ++ m ∷ []) (ap (λ (t : List ℕ). t ++ m ∷ []) is ∙ append_assoc a (x ∷ y ∷ more) (m ∷ [])
    ∙ ap (λ (t : List ℕ). a ++ t) (cons_same x m (y ∷ (more ++ m ∷ [])) (m ∷ (more ++ m ∷ [])) (sym hx) (cons_same y m (more ++ m ∷ []) (more ++ m ∷ []) (sym hy) refl)) ∙ sym (append_assoc a (m ∷ m ∷ []) (more ++ m ∷ []))))

-- what is after is the same where fronts are
abbrev Same : List ℕ → List ℕ → List ℕ → List ℕ → Type 0
Same a c b d = (a ≡ b) × (c ≡ d)

-- a front ends where its end first stands, if that leaves nothing between
pub ended : (end : List ℕ) (a c b d : List ℕ)
    → ((more : List ℕ) → b ≡ a ++ more → end ++ c ≡ more ++ end ++ d → more ≡ [])
    → ((more : List ℕ) → a ≡ b ++ more → end ++ d ≡ more ++ end ++ c → more ≡ [])
    → a ++ end ++ c ≡ b ++ end ++ d → Same a c b d
ended end a c b d h k e = from (overlap a (end ++ c) b (end ++ d) (sym (append_assoc a end c) ∙ e ∙ append_assoc b end d))
  where
    from : Longer a (end ++ c) b (end ++ d) ⊎ Longer b (end ++ d) a (end ++ c) → Same a c b d
    from (inl (more, is, left)) =
        let none : more ≡ [] = h more is (left ∙ sym (append_assoc more end d)) in
        let same : a ≡ b = sym (append-nil a) ∙ ap (λ (t : List ℕ). a ++ t) (sym none) ∙ sym is in
        (same, append_cancel_left end c d (left ∙ ap (λ (t : List ℕ). t ++ (end ++ d)) none))
    from (inr (more, is, left)) =
        let none : more ≡ [] = k more is (left ∙ sym (append_assoc more end c)) in
        let same : b ≡ a = sym (append-nil b) ∙ ap (λ (t : List ℕ). b ++ t) (sym none) ∙ sym is in
        (sym same, sym (append_cancel_left end d c (left ∙ ap (λ (t : List ℕ). t ++ (end ++ c)) none)))

pub question_ended : (a c b d : List ℕ) → Lacks (codes "?>") a → Lacks (codes "?>") b → a ++ codes "?>" ++ c ≡ b ++ codes "?>" ++ d → Same a c b d
question_ended a c b d la lb = ended (codes "?>") a c b d
    (λ more is e. two_end 0x3F 0x3E a c b d more (λ q. omega arith) is (e ∙ append_assoc more (codes "?>") d) lb)
    (λ more is e. two_end 0x3F 0x3E b d a c more (λ q. omega arith) is (e ∙ append_assoc more (codes "?>") c) la)

pub cdata_ended : (a c b d : List ℕ) → Lacks (codes "]]>") a → Lacks (codes "]]>") b → a ++ codes "]]>" ++ c ≡ b ++ codes "]]>" ++ d → Same a c b d
cdata_ended a c b d la lb = ended (codes "]]>") a c b d
    (λ more is e. three_end 0x5D 0x3E a c b d more (λ q. omega arith) is (e ∙ append_assoc more (codes "]]>") d) lb)
    (λ more is e. three_end 0x5D 0x3E b d a c more (λ q. omega arith) is (e ∙ append_assoc more (codes "]]>") c) la)

pub comment_ended : (a c b d : List ℕ) → Lacks (codes "--") (a ++ codes "-") → Lacks (codes "--") (b ++ codes "-") → a ++ codes "-->" ++ c ≡ b ++ codes "-->" ++ d → Same a c b d
comment_ended a c b d la lb = ended (codes "-->") a c b d
    (λ more is e. twin_end 0x2D a (0x3E ∷ c) b (0x3E ∷ d) more is (e ∙ append_assoc more (codes "-->") d) lb)
    (λ more is e. twin_end 0x2D b (0x3E ∷ d) a (0x3E ∷ c) more is (e ∙ append_assoc more (codes "-->") c) la)
