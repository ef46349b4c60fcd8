use Rattle.checkpoint_laws.proofs.batches.EntryBetween.{batch_found, batch_reached, batch_stays, same_posts}
use Rattle.checkpoint_laws.proofs.batches.TakenLetters.{letters_come}
use Rattle.checkpoint_laws.proofs.batches.between.entries_leave_batches.Goals as goal

pub returns-clause-stays : goal.returns-clause-stays
returns-clause-stays c = batch_stays

pub returns-clause-reached : goal.returns-clause-reached
returns-clause-reached c system log e k p s t read took indices comes b is = batch_reached system log e k p s read took indices comes b t is

pub returns-clause-found : goal.returns-clause-found
returns-clause-found c system log e k p s at t read took indices comes b is takes = batch_found system log e k p s read took indices comes b at t is takes

pub returns-clause-takes : goal.returns-clause-takes
returns-clause-takes c = letters_come

pub returns-clause-posts : goal.returns-clause-posts
returns-clause-posts c = same_posts
