-- `macaque_v::read_run::refusal_of` meets its contract, stop by stop. Assumes nothing.
use Rattle.macaque_v.proofs.read_run.refusal_of.Goals as goal

pub returns-in-EndsEarly : goal.returns-in-EndsEarly
returns-in-EndsEarly c = rw c.in-EndsEarly.is

pub returns-in-NoWindow : goal.returns-in-NoWindow
returns-in-NoWindow c = rw c.in-NoWindow.is

pub returns-in-WindowNotAllowed : goal.returns-in-WindowNotAllowed
returns-in-WindowNotAllowed c = rw c.in-WindowNotAllowed.is
