-- A status that is none of the table's has no reason. Assumes nothing.
use Rattle.std.proofs.Common.{◌≡◌, ℕ, ne_eqb}
use Rattle.answer.specs.Lines.{reason_of}

module _ (status : ℕ) where
  abbrev Not : ℕ → Type 0
  Not n = status ≡ n → ⊥

  pub unnamed : Not 200 → Not 400 → Not 403 → Not 404 → Not 405 → Not 414 → Not 454 → Not 455 → Not 461 → Not 501 → Not 503 → Not 505 → Not 551 → reason_of status ≡ ""
  unfolding reason_of
  unnamed a b c d e f g h i j k l m =
      rw (
        ne_eqb status 200 a,
        ne_eqb status 400 b,
        ne_eqb status 403 c,
        ne_eqb status 404 d,
        ne_eqb status 405 e,
        ne_eqb status 414 f,
        ne_eqb status 454 g,
        ne_eqb status 455 h,
        ne_eqb status 461 i,
        ne_eqb status 501 j,
        ne_eqb status 503 k,
        ne_eqb status 505 l,
        ne_eqb status 551 m,
      )
