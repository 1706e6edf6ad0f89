-- Each request is served by its call's function, which is lent some of the arrays.
use mathlib.Core.Path.{refl}
use Rattle.guard.proofs.Calls.{as_request, with_text_lem}
use Rattle.guard.proofs.serve.Goals as goal

pub returns-in-NewUser : goal.returns-in-NewUser
returns-in-NewUser c = as_request _ _ _ _ _ c.in-NewUser.is _ _ c.new_user.ensures refl refl

pub returns-in-StartThread : goal.returns-in-StartThread
returns-in-StartThread c = as_request _ _ _ _ _ c.in-StartThread.is _ _ c.start_thread.ensures refl refl

pub returns-in-EndThread : goal.returns-in-EndThread
returns-in-EndThread c = as_request _ _ _ _ _ c.in-EndThread.is _ _ c.end_thread.ensures refl refl

pub returns-in-NewSegment : goal.returns-in-NewSegment
returns-in-NewSegment c = as_request _ _ _ _ _ c.in-NewSegment.is _ _ c.new_segment.ensures refl refl

pub returns-in-NewKey : goal.returns-in-NewKey
returns-in-NewKey c = as_request _ _ _ _ _ c.in-NewKey.is _ _ c.new_key.ensures refl refl

pub returns-in-GiveKey : goal.returns-in-GiveKey
returns-in-GiveKey c = as_request _ _ _ _ _ c.in-GiveKey.is _ _ c.give_key.ensures refl refl

pub returns-in-TakeKey : goal.returns-in-TakeKey
returns-in-TakeKey c = as_request _ _ _ _ _ c.in-TakeKey.is _ _ c.take_key.ensures refl refl

pub returns-in-AddLock : goal.returns-in-AddLock
returns-in-AddLock c = with_text_lem _ _ _ _ _ c.in-AddLock.is _ _ c.add_lock.ensures refl refl

pub returns-in-DropLock : goal.returns-in-DropLock
returns-in-DropLock c = as_request _ _ _ _ _ c.in-DropLock.is _ _ c.drop_lock.ensures refl refl

pub returns-in-CallSegment : goal.returns-in-CallSegment
returns-in-CallSegment c = as_request _ _ _ _ _ c.in-CallSegment.is _ _ c.call_segment.ensures refl refl

pub returns-in-ReturnCall : goal.returns-in-ReturnCall
returns-in-ReturnCall c = as_request _ _ _ _ _ c.in-ReturnCall.is _ _ c.return_call.ensures refl refl

pub returns-in-Access : goal.returns-in-Access
returns-in-Access c = as_request _ _ _ _ _ c.in-Access.is _ _ c.access.ensures refl refl
