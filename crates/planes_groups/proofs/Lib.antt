-- What the code of `planes_groups` rests on.
mod Seeding
mod Taking
mod Growing
mod Queueing
mod Letting
mod Breadth
mod Grouping
mod Reading
mod Joining
mod Merging
