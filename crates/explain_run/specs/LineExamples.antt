-- The lines of short runs.
use Rattle.std.specs.Prelude.{◌≡◌, ℕ, List, [], ◌∷◌, codes}
use Rattle.explain_run.specs.Lines.{with_started}

-- Programs that were started aren't marked, and the last line says that some were.
pub record OfLines : Type 0 where
  pub filter : with_started (0 ∷ []) (codes "  run b < 4 bytes: 0, output taken [not started]\n  run a < 4 bytes: 0 [not started]\nnot delivered, status 73. Nothing was changed.\n")
      ≡ codes "  run b < 4 bytes: 0, output taken\n  run a < 4 bytes: 0 [not started]\nnot delivered, status 73. Programs were started; nothing else was changed.\n"
  pub second : with_started (1 ∷ []) (codes "rc:1   :0\n  run b: not done\n  run a < 4 bytes: 3 [not started]\n  rc:2   * ? a                               no\n")
      ≡ codes "rc:1   :0\n  run b: not done\n  run a < 4 bytes: 3\n  rc:2   * ? a                               no\n"
  pub log : with_started (0 ∷ []) (codes "  log to log: x [not started]\n  say Nothing was changed.\n") ≡ codes "  log to log: x [not started]\n  say Nothing was changed.\n"
  pub quiet : with_started (0 ∷ []) (codes "delivered to box, status 0. Nothing was changed.\n") ≡ codes "delivered to box, status 0. Programs were started; nothing else was changed.\n"
