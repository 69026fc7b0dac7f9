-- Decimals of numbers: what the library prints is our definition, and they tell their number.
use Rattle.std.proofs.Common.{◌≡◌, ℕ, zero, suc, ◌+◌, ◌-◌, ◌*◌, ◌/◌, ◌%◌, ◌^◌, ◌<◌, ◌≤◌, List, [], ◌∷◌, ◌++◌, map, length, get_or, sym, refl, ap, ◌∙◌, arith}
use Rattle.std.specs.Fmt as fmt
use Rattle.std.specs.Int.Digits.{digits_of, number_from_digits_after}
use Rattle.std.proofs.lemmas.Fmt.{decimal_digit, decimal-digits_of}
use Rattle.std.proofs.lemmas.Int.Digits.{digits_of_step, length-digits_of-le, all_below_base_digits_of, first_digits_of, number_digits_of}
use Rattle.std.proofs.lemmas.List.{append_assoc, map-append, length-map, length_push}
use Rattle.std.proofs.lemmas.Bool.Decides.{nat_tests}
use Rattle.std.proofs.ByRecursion.{All-map, All-weaker}
use Rattle.lines.specs.Decimals.{decimal, digit, read_on, DecimalsStand}

-- any number but 0 in decimals
decimal_suc : (n : ℕ) → decimal (suc n) ≡ map digit (digits_of 10 (suc n))
unfolding decimal
decimal_suc n = grind (arith, nat_tests)

decimal_some : (n : ℕ) → 0 < n → decimal n ≡ map digit (digits_of 10 n)
decimal_some zero h = absurd (omega arith)
decimal_some (suc n) h = decimal_suc n

-- the last digit behind those of a tenth
decimal_last : (n : ℕ) → 0 < n → decimal n ≡ map digit (digits_of 10 (n / 10)) ++ ((48 + n % 10) ∷ [])
decimal_last n h =
    decimal_some n h ∙ ap (map digit) (digits_of_step 10 n (omega arith) h)
    ∙ map-append digit (digits_of 10 (n / 10)) (n % 10 ∷ [])

pub decimal_one : (n : ℕ) → n < 10 → decimal n ≡ (48 + n % 10) ∷ []
unfolding decimal
decimal_one zero h = refl
decimal_one (suc n) h =
    decimal_last (suc n) (omega arith) ∙ (let z : suc n / 10 ≡ 0 = omega arith in ap (λ q. map digit (digits_of 10 q) ++ ((48 + suc n % 10) ∷ [])) z)

pub decimal_more : (n : ℕ) → 10 ≤ n → decimal n ≡ decimal (n / 10) ++ ((48 + n % 10) ∷ [])
decimal_more n h =
    let some : 0 < n / 10 = omega arith in
    decimal_last n (omega arith) ∙ ap (λ ds. ds ++ ((48 + n % 10) ∷ [])) (sym (decimal_some (n / 10) some))

-- how many digits a number has
pub length_decimal_one : (n : ℕ) → n < 10 → length (decimal n) ≡ 1
length_decimal_one n h = ap length (decimal_one n h)

pub length_decimal_more : (n : ℕ) → 10 ≤ n → length (decimal n) ≡ length (decimal (n / 10)) + 1
length_decimal_more n h = ap length (decimal_more n h) ∙ length_push (decimal (n / 10)) (48 + n % 10)

pub length_decimal_le : (k n : ℕ) → 0 < k → n < 10 ^ k → length (decimal n) ≤ k
unfolding decimal
length_decimal_le k zero p h = omega arith
length_decimal_le k (suc n) p h = rw (decimal_suc n, length-map) (length-digits_of-le 10 k (suc n) (omega arith) h)

-- what the library prints of a number of 64 bits
pub decimal_is_printed : (n : ℕ) → n < 2 ^ 64 → fmt.decimal n ≡ decimal n
unfolding decimal
decimal_is_printed zero h = decimal_digit 0 (omega arith)
decimal_is_printed (suc n) h = decimal-digits_of (suc n) (omega arith) h ∙ sym (decimal_suc n)

-- for texts that are put one behind another, numbers among them
pub ruleset printed = (append_assoc, decimal_is_printed)

read_digits : (m : ℕ) (ds : List ℕ) → read_on m (map digit ds) ≡ number_from_digits_after 10 m ds
read_digits m [] = refl
read_digits m (d ∷ ds) =
    let e : digit d - 48 ≡ d = omega arith in
    ap (λ x. read_on (m * 10 + x) (map digit ds)) e ∙ read_digits (m * 10 + d) ds

first_digit : (ds : List ℕ) → 0 < get_or ds 0 0 → 48 < get_or (map digit ds) 0 0
first_digit [] h = absurd (omega arith)
first_digit (d ∷ ds) h = omega arith

pub decimals_stand : DecimalsStand
unfolding decimal
decimals_stand zero = (refl, ((omega arith, omega arith), tt), (λ h. absurd (omega arith)), λ _. refl)
decimals_stand (suc n) =
    let Digit : ℕ → Type 0 = (λ b. (48 ≤ b) × (b ≤ 57)) in
    let ds = digits_of 10 (suc n) in
    let all = All-weaker (λ d. d < 10) (λ d. Digit (digit d)) (λ d l. (omega arith, omega arith)) ds (all_below_base_digits_of 10 (suc n) (omega arith)) in
    rw (decimal_suc n) (
      read_digits 0 ds ∙ number_digits_of 10 (suc n) (omega arith),
      All-map Digit digit ds all,
      (λ _. first_digit ds (first_digits_of 10 (suc n) (omega arith) (omega arith))),
      λ z. absurd (omega arith),
    )
