-- What is so of the base that a source holds.
use Rattle.std.specs.Prelude.{ℕ}
use Rattle.ssb_base.specs.Base.{Tables}

-- a source that holds such bases holds one, after so many commits of its history, of which this is so
pub record IsOver (Holds : Tables → ℕ → Type 0) (Is : Tables → ℕ → Type 0) : Type 0 where
  pub base : Tables
  pub after : ℕ
  pub held : Holds base after
  pub is : Is base after
