-- The draws of a drill: numbers_to that its start determines.
use Rattle.std.specs.Prelude.{ℕ, zero, suc, ◌+◌, ◌*◌, ◌/◌, ◌%◌}

-- what x becomes by a draw
unfoldable pub behind_draw : ℕ → ℕ
behind_draw x = (x * 1103515245 + 12345) % 2147483648

-- what x becomes by so many draws
unfoldable pub behind_draws : ℕ → ℕ → ℕ
behind_draws x zero = x
behind_draws x (suc count) = behind_draw (behind_draws x count)

-- the k-th nth_draw from x on, from 1, out of the numbers_to below n
unfoldable pub nth_draw : ℕ → ℕ → ℕ → ℕ
nth_draw x k n = behind_draws x k / 65536 % n
