-- The switch that never fails with its application, as callers see it.
use Rattle.plain_run.specs.Plain.{PlainSwitch}

pub record PlainRun (A : Type 0) : Type 0 where
  pub app : A
  pub switch : PlainSwitch
