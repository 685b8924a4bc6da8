-- The bench tag, step by step.
use Rattle.std.proofs.Common.{◌≡◌, ℕ, ◌+◌, ◌*◌, ◌%◌, ◌^◌, arith}
use Rattle.sealer.specs.Sealers.{bench_step}

-- the code's two steps, each modulo 2 ^ 64, are one
pub one_step : (m b : ℕ) → (m * 31 % 2 ^ 64 + b) % 2 ^ 64 ≡ bench_step m b
one_step m b = omega arith
