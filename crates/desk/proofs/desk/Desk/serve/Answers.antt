use Rattle.desk.proofs.desk.Desk.serve.Goals as goal

pub returns-in-Three-clause-answer : goal.returns-in-Three-clause-answer
returns-in-Three-clause-answer c = rw c.in-Three.is c.serve-in-Three.ensures.answer
