-- Products of whole numbers.
use Rattle.std.proofs.Common.{◌≡◌, ◌+◌, ◌*◌, ℤ, pos, negsuc, ◌+ℤ◌, ◌*ℤ◌, ◌-ℤ◌, sym, ◌∙◌, ap, arith}
use Rattle.std.proofs.lemmas.Int.{ints}
use Rattle.std.proofs.Math.IntN.{*ℤ_comm}
use borrow.Author.Differences.{up, down, same_in, product_is}

-- a sum as its two parts
sum_parts : (a b : ℤ) → up (a +ℤ b) + (down a + down b) ≡ down (a +ℤ b) + (up a + up b)
sum_parts a b = omega (arith, ints)

pub times_plus : (a b v : ℤ) → (a +ℤ b) *ℤ v ≡ (a *ℤ v) +ℤ (b *ℤ v)
times_plus a b v =
    same_in _ _ (omega (
      arith,
      ints,
      product_is (a +ℤ b) v,
      product_is a v,
      product_is b v,
      ap (λ n. n * up v) (sum_parts a b),
      ap (λ n. n * down v) (sum_parts a b),
    ))

times_times : (w a v : ℤ) → (w *ℤ a) *ℤ v ≡ w *ℤ (a *ℤ v)
times_times w a v =
    same_in _ _ (omega (
      arith,
      product_is (w *ℤ a) v,
      product_is w (a *ℤ v),
      ap (λ n. n * up v) (product_is w a).0,
      ap (λ n. n * down v) (product_is w a).0,
      ap (λ n. n * up v) (product_is w a).1,
      ap (λ n. n * down v) (product_is w a).1,
      ap (λ n. up w * n) (product_is a v).0,
      ap (λ n. down w * n) (product_is a v).0,
      ap (λ n. up w * n) (product_is a v).1,
      ap (λ n. down w * n) (product_is a v).1,
    ))

-- a factor is scaled as its product is
pub scale : (f k v : ℤ) → (f *ℤ k) *ℤ v ≡ (f *ℤ v) *ℤ k
scale f k v = times_times f k v ∙ ap (λ z. f *ℤ z) (*ℤ_comm k v) ∙ sym (times_times f v k)

pub zero_times : (v : ℤ) → pos 0 *ℤ v ≡ pos 0
zero_times v = same_in _ _ (omega (arith, product_is (pos 0) v))

pub one_times : (v : ℤ) → pos 1 *ℤ v ≡ v
one_times v = same_in _ _ (omega (arith, product_is (pos 1) v))

pub times_minus_one : (x : ℤ) → x *ℤ negsuc 0 ≡ pos 0 -ℤ x
times_minus_one x = same_in _ _ (omega (arith, ints, product_is x (negsuc 0)))
