-- Laws of sets of states as numbers: what is in two sets together, in one of them only, in the set of no state and in that of one; and the lowest
-- state of a set. Assumes nothing.
use mathlib.Core.Path.{◌≡◌, refl, sym, ap, ◌∙◌, subst}
use mathlib.Core.Logic.{◌↔◌, ◌⊎◌, inl, inr}
use Prim.Native.Nat.{ℕ, zero, suc, ◌+◌, ◌*◌, ◌-◌, ◌/◌, ◌%◌, ◌^◌, ◌<◌, max}
use native.Mathlib.Decide.{dec_lt}
use native.Mathlib.Nat.{zero-lt-suc, zero-div, div-one, div_self, div-eq_of_lt, div-lt_iff_lt-mul, div-div-eq-div-mul, mul-div_cancel, mul-mod_left, mul-add-mod_self_right, mod-eq_of_lt, pow-suc, pow-succ', max-le, le-max_left, le-max_right, max-eq_right, lt_of_lt_of_le}
use native.Mathlib.Omega.{arith}
use lib.Bits.{bit_or, bit_xor, differ, or_step, or_shr, or_add_and, and_le_l, and_le_r, xor_step, xor_shr, xor_add_and}
use lib.Count.{count_trailing_zeros, under}
use lib.Pow.{pow-add, pow-lt, pow_mono, pow_pos}
use Rattle.useful.specs.Sets.{Has}

-- a binary digit is 0 or 1
digit : (n : ℕ) → (n % 2 ≡ 0) ⊎ (n % 2 ≡ 1)
digit n = go (n % 2) refl
  where
    go : (d : ℕ) → n % 2 ≡ d → (n % 2 ≡ 0) ⊎ (n % 2 ≡ 1)
    go zero e = inl e
    go (suc d) e = inr (omega (arith, e))

-- the last digit of a number that is written as its front and its last digit
last_digit : (x d : ℕ) → d < 2 → (x * 2 + d) % 2 ≡ d
last_digit x d h = mul-add-mod_self_right x 2 d ∙ mod-eq_of_lt h

-- ---- two sets together

or_digit : (a b q : ℕ) → bit_or a b / 2 ^ q % 2 ≡ max (a / 2 ^ q % 2) (b / 2 ^ q % 2)
or_digit a b q =
    let d = a / 2 ^ q in
    let e = b / 2 ^ q in
    ap (λ (x : ℕ). x % 2) (or_shr a b q ∙ or_step d e)
    ∙ last_digit (bit_or (d / 2) (e / 2)) (max (d % 2) (e % 2)) (omega (arith, max-le {a = d % 2} {b = e % 2} {k = 1} (omega arith) (omega arith)))

pub has_or : (a b q : ℕ) → Has (bit_or a b) q ↔ (Has a q ⊎ Has b q)
has_or a b q = (there, back)
  where
    there : Has (bit_or a b) q → Has a q ⊎ Has b q
    there h = go (digit (a / 2 ^ q))
      where
        go : (a / 2 ^ q % 2 ≡ 0) ⊎ (a / 2 ^ q % 2 ≡ 1) → Has a q ⊎ Has b q
        go (inl z) = inr (record { digit = sym (max-eq_right {n = a / 2 ^ q % 2} {m = b / 2 ^ q % 2} (omega (arith, z))) ∙ sym (or_digit a b q) ∙ h.digit })
        go (inr z) = inl (record { digit = z })

    back : Has a q ⊎ Has b q → Has (bit_or a b) q
    back (inl z) =
        let high = max-le {a = a / 2 ^ q % 2} {b = b / 2 ^ q % 2} {k = 1} (omega arith) (omega arith) in
        record { digit = or_digit a b q ∙ omega (arith, z.digit, high, le-max_left (a / 2 ^ q % 2) (b / 2 ^ q % 2)) }
    back (inr z) =
        let high = max-le {a = a / 2 ^ q % 2} {b = b / 2 ^ q % 2} {k = 1} (omega arith) (omega arith) in
        record { digit = or_digit a b q ∙ omega (arith, z.digit, high, le-max_right (a / 2 ^ q % 2) (b / 2 ^ q % 2)) }

-- ---- in which two sets differ

differ_small : (d e : ℕ) → d < 2 → e < 2 → differ d e < 2
differ_small zero e h k = k
differ_small (suc d) zero h k = h
differ_small (suc zero) (suc zero) h k = omega arith
differ_small (suc zero) (suc (suc e)) h k = absurd (omega arith)
differ_small (suc (suc d)) (suc e) h k = absurd (omega arith)

xor_digit : (a b q : ℕ) → bit_xor a b / 2 ^ q % 2 ≡ differ (a / 2 ^ q % 2) (b / 2 ^ q % 2)
xor_digit a b q =
    let d = a / 2 ^ q in
    let e = b / 2 ^ q in
    ap (λ (x : ℕ). x % 2) (xor_shr a b q ∙ xor_step d e)
    ∙ last_digit (bit_xor (d / 2) (e / 2)) (differ (d % 2) (e % 2)) (differ_small (d % 2) (e % 2) (omega arith) (omega arith))

-- a set within another differs from it in a state that the other has
pub has_xor : {a b q : ℕ} → (Has b q → Has a q) → Has (bit_xor a b) q → Has a q × (Has b q → ⊥)
has_xor {a} {b} {q} within h = go (a / 2 ^ q % 2) (b / 2 ^ q % 2) refl refl (sym (xor_digit a b q) ∙ h.digit)
  where
    go : (d e : ℕ) → a / 2 ^ q % 2 ≡ d → b / 2 ^ q % 2 ≡ e → differ d e ≡ 1 → Has a q × (Has b q → ⊥)
    go zero e i j k = absurd (omega (arith, i, (within (record { digit = j ∙ k })).digit))
    go (suc d) zero i j k = (record { digit = i ∙ k }, λ z. omega (arith, j, z.digit))
    go (suc zero) (suc zero) i j k = absurd (omega (arith, k))
    go (suc zero) (suc (suc e)) i j k = absurd (omega (arith, j))
    go (suc (suc d)) (suc e) i j k = absurd (omega (arith, i))

-- sets that differ in no state are the same
pub xor_same : (a b : ℕ) → bit_xor a b ≡ 0 → a ≡ b
xor_same a b e = omega (arith, e, xor_add_and a b, and_le_l a b, and_le_r a b)

-- ---- the set of no state, and that of one state

pub has_none : (q : ℕ) → Has 0 q → ⊥
has_none q h = omega (arith, h.digit, zero-div (2 ^ q))

-- a state that is not below n is in no set below 2 ^ n
pub has_below : {s : ℕ} (n q : ℕ) → s < 2 ^ n → Has s q → q < n
has_below {s} n q b h = go (dec_lt q n)
  where
    go : Dec (q < n) → q < n
    go (yes k) = k
    go (no k) = absurd (omega (arith, h.digit, div-eq_of_lt {n = s} {m = 2 ^ q} (lt_of_lt_of_le b (pow_mono (omega arith)))))

pub has_one : (k q : ℕ) → Has (2 ^ k) q ↔ (k ≡ q)
has_one k q = (there, λ e. rw e record { digit = ap (λ (x : ℕ). x % 2) (div_self (pow_pos q)) })
  where
    there : Has (2 ^ k) q → k ≡ q
    there h = go (dec_lt k q) (dec_lt q k)
      where
        go : Dec (k < q) → Dec (q < k) → k ≡ q
        go (yes l) d = absurd (omega (arith, h.digit, div-eq_of_lt {n = 2 ^ k} {m = 2 ^ q} (pow-lt l)))
        go (no l) (yes g) =
            let j = k - q - 1 in
            let e : k ≡ suc j + q = omega arith in
            let half : 2 ^ k / 2 ^ q ≡ 2 ^ j * 2 =
            ap (λ (x : ℕ). 2 ^ x / 2 ^ q) e ∙ ap (λ (x : ℕ). x / 2 ^ q) (pow-add 2 (suc j) q) ∙ mul-div_cancel (2 ^ suc j) (pow_pos q) ∙ pow-suc 2 j in
            absurd (omega (arith, h.digit, ap (λ (x : ℕ). x % 2) half, mul-mod_left (2 ^ j) 2))
        go (no l) (no g) = omega arith

-- a set with a state that it did not have is more
pub or_more : (s q : ℕ) → (Has s q → ⊥) → s < bit_or s (2 ^ q)
or_more s q no_member = go (dec_lt s (bit_or s (2 ^ q)))
  where
    go : Dec (s < bit_or s (2 ^ q)) → s < bit_or s (2 ^ q)
    go (yes k) = k
    go (no k) =
        let e : bit_or s (2 ^ q) ≡ s = omega (arith, or_add_and s (2 ^ q), and_le_r s (2 ^ q)) in
        absurd (no_member (subst (λ (x : ℕ). Has x q) e ((has_or s (2 ^ q) q).1 (inr ((has_one q q).1 refl)))))

-- ---- the lowest state of a set

pub lowest : (n s : ℕ) → 0 < s → s < 2 ^ n → Has s (count_trailing_zeros n s)
unfolding count_trailing_zeros
lowest zero s h k = absurd (omega (arith, h, k))
lowest (suc n) s h k = go (s % 2) refl (λ e. lowest n (s / 2) (omega (arith, e)) ((div-lt_iff_lt-mul (zero-lt-suc 1)).1 (subst (λ (x : ℕ). s < x) (pow-suc 2 n) k)))
  where
    go : (d : ℕ) → s % 2 ≡ d → (s % 2 ≡ 0 → Has (s / 2) (count_trailing_zeros n (s / 2))) → Has s (under d (count_trailing_zeros n (s / 2)))
    go zero e rest =
        let z = count_trailing_zeros n (s / 2) in
        record { digit = ap (λ (x : ℕ). x % 2) (ap (λ (x : ℕ). s / x) (pow-succ' 2 z) ∙ sym (div-div-eq-div-mul s 2 (2 ^ z))) ∙ (rest e).digit }
    go (suc d) e rest = record { digit = ap (λ (x : ℕ). x % 2) (div-one s) ∙ omega (arith, e) }
